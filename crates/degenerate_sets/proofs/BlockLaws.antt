-- The blocks of two id lists: each entry is in exactly one, which is the set of its row times the set of its column. Assumes nothing.
use mathlib.Core.Path.{◌≡◌, sym, ap, ◌∙◌}
use mathlib.Core.Bool.{Bool, true, false, ◌&&◌}
use mathlib.Core.List.{List, [], ◌∷◌, ◌++◌, map, append_assoc, append-nil}
use Prim.Native.Nat.{ℕ, zero, suc, ◌+◌, ◌*◌, ◌<◌}
use native.Mathlib.Nat.{zero-mul, suc-mul, add-mul, not-suc-le-zero, le_of_suc-le-suc}
use native.Mathlib.Omega.{arith}
use lib.Dec.{ltb}
use lib.IntN.{ℤ}
use lib.ListN.{length, get_or, length-map, length-append, get_or-append}
use lib.Seq.{get_or-append-add}
use Rattle.list_laws.specs.Lists.{one_if, how_many, Each}
use Rattle.list_laws.specs.Matrix.{Block, has_entry}
use Rattle.list_laws.proofs.CountLaws.{many-append, many-map, many-both, each_append, each_map, each-as}
use Rattle.list_laws.proofs.MapLaws.{get_or-map-lt}
use Rattle.list_laws.proofs.MatrixLaws.{has_in}
use Rattle.degenerate_sets.specs.Sets.{starts_at, block_of}
use Rattle.degenerate_sets.specs.Blocks.{DegenerateSet, has_place, sets_of, product, products, blocks_of}
use Rattle.degenerate_sets.proofs.CoverLaws.{IsSet, sets-are, set_own, sets-cover}

-- ---- each entry is in exactly one

-- an entry is in as many products as its row is in sets of the first list, times its column in sets of the second
products-many : (r c : ℕ) (rows columns : List DegenerateSet)
    → how_many (has_entry r c) (products rows columns) ≡ how_many (has_place r) rows * how_many (has_place c) columns
unfolding products how_many
products-many r c [] columns = sym (zero-mul (how_many (has_place c) columns))
products-many r c (s ∷ rows) columns =
    many-append (has_entry r c) (map (product s) columns) (products rows columns)
    ∙ rw (many-map (has_entry r c) (product s) columns, many-both (has_place r s) (has_place c) columns, products-many r c rows columns)
    (sym (add-mul (one_if (has_place r s)) (how_many (has_place r) rows) (how_many (has_place c) columns)))

one-both : (a b : Bool) → one_if a * one_if b ≡ one_if (a && b)
one-both true true = omega arith
one-both true false = omega arith
one-both false b = zero-mul (one_if b)

-- the blocks cover the matrix: each entry is in exactly one, and none reaches past its rows and columns
pub blocks-cover : (n : ℕ) (ids1 ids2 : List ℤ) (r c : ℕ) → how_many (has_entry r c) (blocks_of n ids1 ids2) ≡ one_if (ltb r n && ltb c n)
blocks-cover n ids1 ids2 r c =
    products-many r c (sets_of n ids1) (sets_of n ids2)
    ∙ rw (sets-cover n ids1 r, sets-cover n ids2 c) (one-both (ltb r n) (ltb c n))

-- ---- which block

-- what holds of each pair of sets holds of each product
each-product : (P Q : DegenerateSet → Type 0) (R : Block → Type 0) → ((s t : DegenerateSet) → P s → Q t → R (product s t))
    → (rows columns : List DegenerateSet) → Each P rows → Each Q columns → Each R (products rows columns)
unfolding products
each-product P Q R f [] columns e g = tt
each-product P Q R f (s ∷ rows) columns e g =
    each_append R (map (product s) columns) (products rows columns)
    (each_map R (product s) columns (each-as Q (λ t. R (product s t)) (λ t y. f s t e.0 y) columns g))
    (each-product P Q R f rows columns e.1 g)

-- the block that has an entry is the set of its row times the set of its column
pub blocks-own : (n : ℕ) (ids1 ids2 : List ℤ)
    → Each (λ b. (r c : ℕ) → has_entry r c b ≡ true → b ≡ block_of (starts_at ids1) (starts_at ids2) n r c) (blocks_of n ids1 ids2)
blocks-own n ids1 ids2 =
    each-product (IsSet (starts_at ids1) n) (IsSet (starts_at ids2) n)
    (λ b. (r c : ℕ) → has_entry r c b ≡ true → b ≡ block_of (starts_at ids1) (starts_at ids2) n r c) own (sets_of n ids1) (sets_of n ids2)
    (sets-are (starts_at ids1) n) (sets-are (starts_at ids2) n)
  where
    own : (s t : DegenerateSet) → IsSet (starts_at ids1) n s → IsSet (starts_at ids2) n t
        → (r c : ℕ) → has_entry r c (product s t) ≡ true → product s t ≡ block_of (starts_at ids1) (starts_at ids2) n r c
    own s t x y r c h =
        let i = has_in r c (product s t) h in
        let rows = set_own (starts_at ids1) n r s x i.0.0 i.0.1 in
        let columns = set_own (starts_at ids2) n c t y i.1.0 i.1.1 in
        cc (rows.0, rows.1, columns.0, columns.1)

-- ---- the order

-- one set of rows more: its products come last
pub products-more : (rows : List DegenerateSet) (s : DegenerateSet) (columns : List DegenerateSet)
    → products (rows ++ (s ∷ [])) columns ≡ products rows columns ++ map (product s) columns
unfolding products
products-more [] s columns = append-nil (map (product s) columns)
products-more (x ∷ rows) s columns =
    ap (λ (l : List Block). map (product x) columns ++ l) (products-more rows s columns)
    ∙ sym (append_assoc (map (product x) columns) (products rows columns) (map (product s) columns))

-- with each set of the first list, one after another, every set of the second
pub product_at : (rows columns : List DegenerateSet) (i j : ℕ) (s : DegenerateSet) (b : Block) → i < length rows → j < length columns
    → get_or (products rows columns) (i * length columns + j) b ≡ product (get_or rows i s) (get_or columns j s)
unfolding products
product_at [] columns i j s b h l = absurd (not-suc-le-zero h)
product_at (x ∷ rows) columns zero j s b h l =
    let place : 0 * length columns + j ≡ j = omega (arith, zero-mul (length columns)) in
    ap (λ (k : ℕ). get_or (map (product x) columns ++ products rows columns) k b) place
    ∙ get_or-append (map (product x) columns) (products rows columns) b j (omega (arith, length-map columns (product x)))
    ∙ get_or-map-lt (product x) columns j b s l
product_at (x ∷ rows) columns (suc i) j s b h l =
    let place : suc i * length columns + j ≡ length (map (product x) columns) + (i * length columns + j)
    = omega (arith, length-map columns (product x), suc-mul i (length columns)) in
    ap (λ (k : ℕ). get_or (map (product x) columns ++ products rows columns) k b) place
    ∙ get_or-append-add (map (product x) columns) (products rows columns) (i * length columns + j) b
    ∙ product_at rows columns i j s b (le_of_suc-le-suc h) l

pub products-length : (rows columns : List DegenerateSet) → length (products rows columns) ≡ length rows * length columns
unfolding products
products-length [] columns = sym (zero-mul (length columns))
products-length (x ∷ rows) columns =
    length-append (map (product x) columns) (products rows columns)
    ∙ omega (arith, length-map columns (product x), products-length rows columns, suc-mul (length rows) (length columns))
