-- The rules of a geometry at their boundaries, its sizes there, and the rows of some patterns,
-- computed: rows of three tables.
use Rattle.std.proofs.Common.{◌≡◌, ℕ, ◌-◌, ◌^◌, Bool, true, false, List, [], ◌∷◌, map, refl}
use Rattle.words.specs.Rules.{tabulate}
use Rattle.geometry.specs.declared.Geometry.{Geometry}
use Rattle.geometry.specs.Valid.{is_valid, kind_rule}
use Rattle.geometry.specs.Sizes.{sets, row_words, match_words, set_length}
use Rattle.geometry.specs.Stages.{stages, stage_width, stage, row_of, rows_of, rows, indicator_words}

abbrev pub four : (kind depth width set : ℕ) → Geometry
four k d p w = record { kind = k; depth = d; pattern_width = p; set_width = w }

-- Four numbers, and whether they are a geometry.
pub record Rule : Type 0 where
  pub geometry : Geometry
  pub expected : Bool

abbrev pub rule : (kind depth width set : ℕ) → Bool → Rule
rule k d p w e = record { geometry = four k d p w; expected = e }

abbrev pub boundaries : List Rule
boundaries =
    rule 0 1 1 1 true ∷ rule 0 4096 12 1 true ∷ rule 0 0 1 1 false ∷ rule 0 4097 12 1 false
    ∷ rule 0 8 0 1 false ∷ rule 0 8 13 1 false ∷ rule 0 8 12 0 false ∷ rule 0 8 12 2 false
    ∷ rule 1 2 1 1 true ∷ rule 1 4096 27 1 true ∷ rule 1 0 27 1 false ∷ rule 1 4097 27 1 false
    ∷ rule 1 2 0 1 false ∷ rule 1 2 28 1 false ∷ rule 1 2 10 0 false ∷ rule 1 2 10 2 false
    ∷ rule 2 1 1 1 true ∷ rule 2 4096 12 64 true ∷ rule 2 0 12 1 false ∷ rule 2 4097 12 1 false
    ∷ rule 2 8 0 2 false ∷ rule 2 8 13 2 false ∷ rule 2 8 2 0 false ∷ rule 2 130 2 65 false
    ∷ rule 2 9 2 3 true ∷ rule 2 9 2 2 true ∷ rule 2 8 2 8 true ∷ rule 2 8 2 9 false ∷ rule 2 8 2 16 false
    ∷ rule 2 1000 1 64 true ∷ rule 2 65 12 64 true ∷ rule 2 64 12 64 true ∷ rule 2 63 12 64 false ∷ rule 2 5 2 2 true
    ∷ rule 2 129 1 2 true ∷ rule 2 4096 12 63 true ∷ rule 3 8 2 2 false ∷ []

pub boundaries_hold : map (λ (r : Rule). is_valid r.geometry) boundaries ≡ map (λ (r : Rule). r.expected) boundaries
unfolding is_valid kind_rule
boundaries_hold = refl

-- A geometry with its sets, the words of a row and of a match word, its stages, rows and words of
-- the indicators; the lengths of its first and its last set; and the rows of its last pattern.
pub record Size : Type 0 where
  pub geometry : Geometry
  pub expected : List (List ℕ)

abbrev pub size : Geometry → (sets row match stages rows words : ℕ) → (lengths last : List ℕ) → Size
size g c r m n all words lengths last = record { geometry = g; expected = (c ∷ r ∷ m ∷ n ∷ all ∷ words ∷ []) ∷ lengths ∷ last ∷ [] }

abbrev pub sizes_of : Geometry → List (List ℕ)
sizes_of g =
    (sets g ∷ row_words g ∷ match_words g ∷ stages g ∷ rows g ∷ indicator_words g ∷ [])
    ∷ (set_length g 0 ∷ set_length g (sets g - 1) ∷ [])
    ∷ rows_of g (2 ^ g.pattern_width - 1) ∷ []

abbrev pub sizes : List Size
sizes =
    size (four 0 64 1 1) 64 1 1 1 2 2 (1 ∷ 1 ∷ []) (1 ∷ [])
    ∷ size (four 0 65 1 1) 65 2 2 1 2 4 (1 ∷ 1 ∷ []) (1 ∷ [])
    ∷ size (four 0 32 9 1) 32 1 1 1 512 512 (1 ∷ 1 ∷ []) (511 ∷ [])
    ∷ size (four 0 4096 12 1) 4096 64 64 1 4096 262144 (1 ∷ 1 ∷ []) (4095 ∷ [])
    ∷ size (four 1 2 9 1) 2 1 1 1 512 512 (1 ∷ 1 ∷ []) (511 ∷ [])
    ∷ size (four 1 2 10 1) 2 1 1 2 514 514 (1 ∷ 1 ∷ []) (511 ∷ 513 ∷ [])
    ∷ size (four 1 128 18 1) 128 2 2 2 1024 2048 (1 ∷ 1 ∷ []) (511 ∷ 1023 ∷ [])
    ∷ size (four 1 129 19 1) 129 3 3 3 1026 3078 (1 ∷ 1 ∷ []) (511 ∷ 1023 ∷ 1025 ∷ [])
    ∷ size (four 1 1 27 1) 1 1 1 3 1536 1536 (1 ∷ 1 ∷ []) (511 ∷ 1023 ∷ 1535 ∷ [])
    ∷ size (four 2 8 2 2) 4 1 1 1 4 4 (2 ∷ 2 ∷ []) (3 ∷ [])
    ∷ size (four 2 128 12 2) 64 1 2 1 4096 4096 (2 ∷ 2 ∷ []) (4095 ∷ [])
    ∷ size (four 2 130 12 2) 65 2 3 1 4096 8192 (2 ∷ 2 ∷ []) (4095 ∷ [])
    ∷ size (four 2 4096 12 64) 64 1 64 1 4096 4096 (64 ∷ 64 ∷ []) (4095 ∷ [])
    ∷ size (four 2 8 2 8) 1 1 1 1 4 4 (8 ∷ 8 ∷ []) (3 ∷ [])
    ∷ size (four 2 5 2 2) 3 1 1 1 4 4 (2 ∷ 1 ∷ []) (3 ∷ [])
    ∷ size (four 2 65 12 64) 2 1 2 1 4096 4096 (64 ∷ 1 ∷ []) (4095 ∷ [])
    ∷ size (four 2 129 1 2) 65 2 3 1 2 4 (2 ∷ 1 ∷ []) (1 ∷ [])
    ∷ size (four 2 1000 1 64) 16 1 16 1 2 2 (64 ∷ 40 ∷ []) (1 ∷ [])
    ∷ size (four 2 4096 12 63) 66 2 64 1 4096 8192 (63 ∷ 1 ∷ []) (4095 ∷ []) ∷ []

pub sizes_hold : map (λ (r : Size). sizes_of r.geometry) sizes ≡ map (λ (r : Size). r.expected) sizes
unfolding sets row_words match_words set_length stages stage_width stage row_of rows_of rows indicator_words tabulate
sizes_hold = refl

-- The rows of patterns whose stages differ: the lowest nine bits are stage 0.
pub rows_hold : rows_of (four 1 2 10 1) 514 ∷ rows_of (four 1 2 27 1) 787457 ∷ rows_of (four 0 2 12 1) 3000 ∷ rows_of (four 2 2 12 1) 3001 ∷ []
    ≡ (2 ∷ 513 ∷ []) ∷ (1 ∷ 514 ∷ 1027 ∷ []) ∷ (3000 ∷ []) ∷ (3001 ∷ []) ∷ []
unfolding stages stage_width stage row_of rows_of tabulate
rows_hold = refl
