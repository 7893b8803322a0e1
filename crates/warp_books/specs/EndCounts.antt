-- Inner: how a book's own numbers show the counts of all kinds of end.
use Rattle.std.specs.Prelude.{ℕ, slice_index, None}
use Rattle.warp_books.specs.declared.finish.Finish.{Finish}
use Rattle.warp_books.specs.declared.sum_book.SumBook.{SumBook}
use Rattle.warp_books.specs.Books.{Sums, BookTold, kind_number}

-- how many ended in this way
abbrev pub count_of : SumBook → Finish → ℕ
count_of b k = slice_index b.ends (kind_number k)

-- the sums that a book of sums has
abbrev pub sums_in : SumBook → Sums
sums_in b = record { ends = count_of b; moments = b.moments; bytes = b.bytes; waits = b.waits }

-- a book of sums keeps nothing of what it was handed
abbrev pub book_told : SumBook → BookTold
book_told b = record { sums = sums_in b; kept = None }
