-- To be believed: which targets a method may have (RFC 9112, section 3.2).
use Rattle.std.specs.Prelude.{ℕ, Bool, ◌&&◌, ◌||◌, List, codes, bytes_eq, nat_le}
use Rattle.path_rules.specs.Target.{form_of, has_path}

-- a visible byte of ASCII, 0x21 to 0x7E
abbrev pub is_visible : ℕ → Bool
is_visible b = nat_le 33 b && nat_le b 126

-- origin form or absolute form; CONNECT takes any target (section 3.2.3), OPTIONS also
-- the asterisk (section 3.2.4)
unfoldable pub is_target_form : List ℕ → List ℕ → Bool
is_target_form method target =
    has_path (form_of target) || bytes_eq method (codes "CONNECT")
    || (bytes_eq method (codes "OPTIONS") && bytes_eq target (codes "*"))
