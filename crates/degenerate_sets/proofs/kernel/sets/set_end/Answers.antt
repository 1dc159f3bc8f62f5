-- `degenerate_sets::kernel::sets::set_end` meets its contract.
use borrow.Author.Rules.{rules}
use borrow.Author.Tests.{tests}
use mathlib.Core.Bool.{Bool}
use mathlib.Core.Path.{◌≡◌, ◌∙◌, ap, refl, sym}
use Prim.Native.Nat.{ℕ, ◌+◌, ◌-◌}
use native.Mathlib.Omega.{arith}
use lib.ListN.{length}
use Rattle.std.proofs.lemmas.Iterator.{YieldsList-from_range}
use Rattle.std.proofs.lemmas.Iterator.Adapters.{option_map_id}
use Rattle.std.proofs.lemmas.Iterator.Search.{find_from_yields_List}
use Rattle.std.specs.List.{find, range_with_len}
use Rattle.std.specs.Option.{option_map, unwrap_or}
use Rattle.std.specs.declared.option.Option.{Option}
use Rattle.list_laws.proofs.FirstLaws.{find-first}
use Rattle.degenerate_sets.specs.Sets.{starts_at}
use Rattle.degenerate_sets.proofs.SetLaws.{end-first, next-found}
use Rattle.degenerate_sets.proofs.kernel.sets.set_end.Goals as goal

pub returns : goal.returns
unfolding starts_at
returns c =
    let n : ℕ = length c.args.ids.now in
    let first : ℕ = c.args.b + 1 in
    let test : ℕ → Bool = starts_at c.args.ids.now in
    let f : option_map (λ (x : ℕ). x) c.find.result ≡ find test (range_with_len first (n - first)) =
    find_from_yields_List test _ _ c.find.result c.find.ensures.ran (YieldsList-from_range first n (n - first) refl refl) (λ x b q k. search (rules, tests)) in
    c.unwrap_or.ensures ∙ ap (λ (r : Option ℕ). unwrap_or r n) (sym (option_map_id c.find.result) ∙ f) ∙ find-first test first (n - first) n
    ∙ next-found test n (n - first) first (omega arith) ∙ sym (end-first test n c.args.b)
