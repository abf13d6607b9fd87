-- The listing of a sound pool, as text.
use Rattle.std.specs.Prelude.{cond, List, [], ◌∷◌, ◌++◌, ℕ, zero, suc, ◌^◌}
use Rattle.numbers.specs.Flag.{plain, is_flagged}
use Rattle.pool.specs.Words.{layout_of, header_word}
use Rattle.pool.specs.Sound.{tiles_of, blocks_of}
use Rattle.pool.specs.Lists.{list_of}
use Rattle.lister.specs.Text.{field}

-- "\n", " ", ":", "*"
abbrev pub newline : List ℕ
newline = 10 ∷ []

abbrev pub space : List ℕ
space = 32 ∷ []

abbrev pub colon : List ℕ
colon = 58 ∷ []

abbrev pub star : List ℕ
star = 42 ∷ []

-- "screen ", " tile ", " blocks ", " free ", "tile "
abbrev pub screen_name : List ℕ
screen_name = 115 ∷ 99 ∷ 114 ∷ 101 ∷ 101 ∷ 110 ∷ 32 ∷ []

abbrev pub side_name : List ℕ
side_name = 32 ∷ 116 ∷ 105 ∷ 108 ∷ 101 ∷ 32 ∷ []

abbrev pub blocks_name : List ℕ
blocks_name = 32 ∷ 98 ∷ 108 ∷ 111 ∷ 99 ∷ 107 ∷ 115 ∷ 32 ∷ []

abbrev pub free_name : List ℕ
free_name = 32 ∷ 102 ∷ 114 ∷ 101 ∷ 101 ∷ 32 ∷ []

abbrev pub tile_name : List ℕ
tile_name = 116 ∷ 105 ∷ 108 ∷ 101 ∷ 32 ∷ []

-- screen W H tile P blocks N free F
unfoldable pub screen_line : (width height side blocks free : ℕ) → List ℕ
screen_line width height side blocks free =
    field screen_name width ++ field space height ++ field side_name side ++ field blocks_name blocks ++ field free_name free ++ newline

-- the id of an entry after a space, and a star behind it where its flag says that the tile is wholly covered
unfoldable pub entry_text : (entry : ℕ) → List ℕ
entry_text entry = field space (plain entry) ++ cond (is_flagged entry) star []

-- each entry after a space
abbrev pub entries_text : List ℕ → List ℕ
entries_text [] = []
entries_text (entry ∷ entries) = entry_text entry ++ entries_text entries

-- tile T: entry entry ..
unfoldable pub line_of : (t : ℕ) → List ℕ → List ℕ
line_of t entries = field tile_name t ++ colon ++ entries_text entries ++ newline

-- the line of a tile, and nothing where its list is empty
abbrev pub tile_line : (t : ℕ) → List ℕ → List ℕ
tile_line t [] = []
tile_line t (entry ∷ entries) = line_of t (entry ∷ entries)

-- the lines of the first n tiles of the words p
abbrev pub tile_lines : List ℕ → (n : ℕ) → List ℕ
tile_lines p zero = []
tile_lines p (suc t) = tile_lines p t ++ tile_line t (list_of (layout_of p) (tiles_of p) p t)

-- the line of the screen, and those of all tiles
unfoldable pub listing : List ℕ → List ℕ
listing p =
    screen_line (header_word p 0) (header_word p 1) (2 ^ header_word p 2) (blocks_of p) (header_word p 4) ++ tile_lines p (tiles_of p)
