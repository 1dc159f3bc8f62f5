-- `sheet_calls::parts::ids_from` meets its contract.
use lib.Signed.{mag}
use mathlib.Core.Bool.{true}
use Prim.Native.Nat.{◌≤◌}
use lib.ListN.{length}
use mathlib.Core.Path.{◌∙◌, ◌≡◌, sym}
use mir.Syntax.{w64}
use mir.ValLaws.{to_z-of_z}
use native.Mathlib.Omega.{arith}
use Rattle.list_laws.proofs.SignedLaws.{mag-given}
use Rattle.sheet_calls.proofs.CallLaws.{ids-none, ids-part, part-within}
use Rattle.sheet_calls.specs.Calls.{is_part}
use Rattle.sheet_calls.proofs.parts.ids_from.Goals.{After-magnitude-e}
use Rattle.sheet_calls.proofs.parts.ids_from.Goals as goal

-- the part is one of the ids
told : (c : After-magnitude-e) → is_part c.args.ids.now c.args.start c.args.end ≡ true
told c = rw (to_z-of_z w64 c.args.start c.ranges.start, to_z-of_z w64 c.args.end c.ranges.end) at (sym c.part_ok.ensures ∙ c.if-part_ok.true)

starts : (c : After-magnitude-e) → c.magnitude-s.result ≡ mag c.args.start
starts c = mag-given c.args.start c.ranges.start c.magnitude-s.ensures

ends : (c : After-magnitude-e) → c.magnitude-e.result ≡ mag c.args.end
ends c = mag-given c.args.end c.ranges.end c.magnitude-e.ensures

-- it lies in them
lies : (c : After-magnitude-e) → (c.magnitude-s.result ≤ c.magnitude-e.result) × (c.magnitude-e.result ≤ length c.args.ids.now)
lies c = rw (starts c, ends c) (part-within c.args.ids.now c.args.start c.args.end (told c))

pub offset_bounds-ids-s : goal.offset_bounds-ids-s
offset_bounds-ids-s c = omega (arith, lies (goal.at.offset_bounds-ids-s c).After-magnitude-e, c.well_formed)

pub slice_bounds-result-count : goal.slice_bounds-result-count
slice_bounds-result-count c = omega (arith, lies (goal.at.slice_bounds-result-count c).After-magnitude-e)

pub slice_bounds-result-start : goal.slice_bounds-result-start
slice_bounds-result-start c = omega (arith, lies (goal.at.slice_bounds-result-start c).After-magnitude-e)

pub slice_bounds-result-end : goal.slice_bounds-result-end
slice_bounds-result-end c = omega (arith, lies (goal.at.slice_bounds-result-end c).After-magnitude-e)

pub returns-then-part_ok : goal.returns-then-part_ok
returns-then-part_ok c =
    let at = (goal.at.returns-then-part_ok c).After-magnitude-e in
    rw (starts at, ends at) (ids-part c.args.ids.now c.args.start c.args.end (told at))

pub returns : goal.returns
returns c =
    ids-none c.args.ids.now c.args.start c.args.end (rw (to_z-of_z w64 c.args.start c.ranges.start, to_z-of_z w64 c.args.end c.ranges.end) at (sym c.part_ok.ensures ∙ c.if-part_ok.false))
