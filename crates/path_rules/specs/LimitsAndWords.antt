-- To be believed: the limits of names and paths, and the words that targets and folders are read by.
use Rattle.std.specs.Prelude.{ℕ, List, codes}

-- the most bytes of the name of a file or a folder
abbrev pub longest_name : ℕ
longest_name = 255

-- the most bytes of a path, without the name of an index
abbrev pub longest_path : ℕ
longest_path = 3900

-- the name of the file that stands for a folder
abbrev pub index_name : List ℕ
index_name = codes "index.html"

-- one scheme that a target may begin with (RFC 9110, section 4.2.1)
abbrev pub http : List ℕ
http = codes "http://"

-- the other scheme (RFC 9110, section 4.2.2)
abbrev pub https : List ℕ
https = codes "https://"
