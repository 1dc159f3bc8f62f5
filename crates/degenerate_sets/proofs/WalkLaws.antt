-- The program's walk, block after block: what its loops have done is the turns of the blocks so far. For any rule. Assumes nothing.
use mathlib.Core.Path.{◌≡◌, refl, sym, ap, ◌∙◌}
use mathlib.Core.Logic.{⊎_elim}
use mathlib.Core.Bool.{Bool, true}
use mathlib.Core.List.{List, [], ◌∷◌, map, map-append, foldl-append}
use Prim.Native.Nat.{ℕ, ◌*◌, ◌/◌, ◌%◌, ◌<◌}
use lib.IntN.{ℤ}
use Rattle.std.specs.declared.ops.Range.{Range}
use native.Mathlib.Nat.{div-add-mod', mod-lt}
use native.Mathlib.Omega.{arith}
use lib.ListN.{length, get_or}
use Rattle.list_laws.specs.Lists.{places_below}
use Rattle.list_laws.specs.Matrix.{Block, InBlock, Replaced, has_entry}
use Rattle.list_laws.proofs.BoolLaws.{clash, true-or-false}
use Rattle.list_laws.proofs.MatrixLaws.{square-pos, has_in, in-has}
use Rattle.list_laws.proofs.PatchLaws.{patch-is}
use Rattle.degenerate_sets.specs.declared.kernel.sets.Sets.{Sets}
use Rattle.degenerate_sets.specs.Sets.{starts_at, end_of}
use Rattle.degenerate_sets.specs.Walks.{IsNext}
use Rattle.degenerate_sets.specs.Blocks.{DegenerateSet, degenerate_set, is_first, sets_below, product, products}
use Rattle.degenerate_sets.specs.Turns.{on_block, in_turn}
use Rattle.degenerate_sets.proofs.CoverLaws.{sets-next}
use Rattle.degenerate_sets.proofs.BlockLaws.{products-more}

-- ---- one block

-- a matrix in which the entries of the block were replaced, and no others, has had the block's turn
pub block-turn : {A : Type 0} (d : A) (n : ℕ) (rule : Block → List A → ℕ → ℕ → A) (b : Block) (m m' : List A) → length m ≡ n * n
    → Replaced d n (InBlock b) (rule b m) m m' → m' ≡ on_block n rule m b
block-turn d n rule b m m' len R =
    patch-is d (λ k. has_entry (k / n) (k % n) b) (λ k. rule b m (k / n) (k % n)) m m' R.same_length
    (λ k h.
    let some : 0 < n = square-pos n k (omega arith) in
    let place = div-add-mod' k n in
    ⊎_elim
    (λ t.
    rw t (ap (λ (j : ℕ). get_or m' j d) (sym place) ∙ R.inside (k / n) (k % n) (mod-lt k some) (has_in (k / n) (k % n) b t)))
    (λ t.
    rw t
    (ap (λ (j : ℕ). get_or m' j d) (sym place)
    ∙ R.outside (k / n) (k % n) (mod-lt k some) (λ i. clash (sym t ∙ in-has (k / n) (k % n) b i))
    ∙ ap (λ (j : ℕ). get_or m j d) place))
    (true-or-false (has_entry (k / n) (k % n) b)))

-- ---- a step of the walk

-- of the walk over these ids
pub next-of : (ids : List ℤ) (s t : Sets) (set : Range ℕ) → s.ids.now ≡ ids → IsNext s t set
    → (s.start < length ids) × (set.start ≡ s.start) × (set.end ≡ end_of (starts_at ids) (length ids) s.start) × (t.start ≡ set.end) × (t.ids.now ≡ ids)
next-of ids s t set e h =
    let h' = rw e at h in (h'.0, h'.1, h'.2, h'.3, h.4 ∙ e)

module _ {A : Type 0} (n : ℕ) (rule : Block → List A → ℕ → ℕ → A) where
  -- ---- the blocks of one set of rows

  -- no block has had its turn
  pub columns-none : (q : ℕ → Bool) (s : DegenerateSet) (m : List A) → m ≡ in_turn n rule (map (product s) (sets_below q n 0)) m
  unfolding places_below
  columns-none q s m = refl

  -- one more has: that of the columns `left` up to below `right`
  pub columns-turn : (q : ℕ → Bool) (s : DegenerateSet) (left right : ℕ) (m₀ m m' : List A) → left < n → is_first q left ≡ true → right ≡ end_of q n left
      → m ≡ in_turn n rule (map (product s) (sets_below q n left)) m₀ → m' ≡ on_block n rule m (product s (degenerate_set left right))
      → m' ≡ in_turn n rule (map (product s) (sets_below q n right)) m₀
  columns-turn q s left right m₀ m m' h f e done this =
      let before : List Block = map (product s) (sets_below q n left) in
      let b : Block = product s (degenerate_set left right) in
      this
      ∙ ap (λ (x : List A). on_block n rule x b) done
      ∙ sym (foldl-append (on_block n rule) m₀ before (b ∷ []))
      ∙ ap (λ (blocks : List Block). in_turn n rule blocks m₀)
      (sym (ap (map (product s)) (sets-next q n left right h f e) ∙ map-append (product s) (sets_below q n left) (degenerate_set left right ∷ [])))

  -- ---- all blocks

  pub rows_none : (p : ℕ → Bool) (columns : List DegenerateSet) (m : List A) → m ≡ in_turn n rule (products (sets_below p n 0) columns) m
  unfolding places_below products
  rows_none p columns m = refl

  -- one set of rows more has had its turn, `top` up to below `bottom`
  pub rows-turn : (p : ℕ → Bool) (columns : List DegenerateSet) (top bottom : ℕ) (m₀ m m' : List A) → top < n → is_first p top ≡ true
      → bottom ≡ end_of p n top → m ≡ in_turn n rule (products (sets_below p n top) columns) m₀
      → m' ≡ in_turn n rule (map (product (degenerate_set top bottom)) columns) m
      → m' ≡ in_turn n rule (products (sets_below p n bottom) columns) m₀
  rows-turn p columns top bottom m₀ m m' h f e done this =
      let before : List Block = products (sets_below p n top) columns in
      let more : List Block = map (product (degenerate_set top bottom)) columns in
      this
      ∙ ap (in_turn n rule more) done
      ∙ sym (foldl-append (on_block n rule) m₀ before more)
      ∙ ap (λ (blocks : List Block). in_turn n rule blocks m₀)
      (sym (ap (λ (sets : List DegenerateSet). products sets columns) (sets-next p n top bottom h f e)
      ∙ products-more (sets_below p n top) (degenerate_set top bottom) columns))
