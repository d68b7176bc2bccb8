-- The text that a run prints, in ASCII.
use Rattle.std.specs.Prelude.{List, [], ◌∷◌, ◌++◌, ℕ, zero, suc, ◌+◌, ◌*◌, ◌/◌, ◌%◌, ltb, get_or, length, take, drop}
use Rattle.kernels_model.specs.Choice.{pick}

-- the digit 0; the others follow it
abbrev pub digit_zero : ℕ
digit_zero = 48

-- a number in decimal: its digits by at most n divisions by 10
unfoldable pub digits_by : ℕ → ℕ → List ℕ
digits_by zero k = (digit_zero + k % 10) ∷ []
digits_by (suc n) k = pick (ltb k 10) ((digit_zero + k) ∷ []) (digits_by n (k / 10) ++ ((digit_zero + k % 10) ∷ []))

unfoldable pub decimal : ℕ → List ℕ
decimal k = digits_by k k

-- a space, a slash and the end of a line
abbrev pub space : ℕ
space = 32

abbrev pub slash : ℕ
slash = 47

abbrev pub newline : ℕ
newline = 10

-- "stopped", "refused", "done", "plate" and "at"
abbrev pub stopped_word : List ℕ
stopped_word = 115 ∷ 116 ∷ 111 ∷ 112 ∷ 112 ∷ 101 ∷ 100 ∷ []

abbrev pub refused_word : List ℕ
refused_word = 114 ∷ 101 ∷ 102 ∷ 117 ∷ 115 ∷ 101 ∷ 100 ∷ []

abbrev pub done_word : List ℕ
done_word = 100 ∷ 111 ∷ 110 ∷ 101 ∷ []

abbrev pub plate_word : List ℕ
plate_word = 112 ∷ 108 ∷ 97 ∷ 116 ∷ 101 ∷ []

abbrev pub at_word : List ℕ
at_word = 97 ∷ 116 ∷ []

-- a word and two numbers: "`stopped N at K`", "`refused N at K`"
unfoldable pub numbered : List ℕ → ℕ → ℕ → List ℕ
numbered word n k = word ++ (space ∷ decimal n) ++ (space ∷ at_word) ++ (space ∷ decimal k) ++ (newline ∷ [])

-- "prints `done` and the record count"
unfoldable pub done_line : ℕ → List ℕ
done_line k = done_word ++ (space ∷ decimal k) ++ (newline ∷ [])

-- "A show prints `plate`, width and height, then a line per row of value/matte, in decimal with single spaces between"
unfoldable pub head_line : ℕ → ℕ → List ℕ
head_line w h = plate_word ++ (space ∷ decimal w) ++ (space ∷ decimal h) ++ (newline ∷ [])

-- the cell at place i
unfoldable pub cell_text : List ℕ → List ℕ → ℕ → List ℕ
cell_text values mattes i = decimal (get_or values i 0) ++ (slash ∷ decimal (get_or mattes i 0))

-- the cells from place i on, n of them, a space before each but the first
unfoldable pub row_text : List ℕ → List ℕ → ℕ → ℕ → List ℕ
row_text values mattes i zero = []
row_text values mattes i (suc zero) = cell_text values mattes i
row_text values mattes i (suc (suc n)) = row_text values mattes i (suc n) ++ (space ∷ cell_text values mattes (i + suc n))

-- h rows of w cells, a line for each
unfoldable pub rows_text : List ℕ → List ℕ → ℕ → ℕ → List ℕ
rows_text values mattes w zero = []
rows_text values mattes w (suc h) = rows_text values mattes w h ++ row_text values mattes (h * w) w ++ (newline ∷ [])

unfoldable pub show_text : ℕ → ℕ → List ℕ → List ℕ → List ℕ
show_text w h values mattes = head_line w h ++ rows_text values mattes w h

-- the slice with a text from a place on
unfoldable pub with_text : List ℕ → ℕ → List ℕ → List ℕ
with_text s at t = take at s ++ t ++ drop (at + length t) s
