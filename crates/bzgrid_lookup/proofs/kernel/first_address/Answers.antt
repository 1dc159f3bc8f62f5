-- `bzgrid_lookup::kernel::first_address` meets its contract.
use borrow.Author.Tests.{tests}
use mathlib.Core.Path.{◌≡◌, ◌∙◌, ap, refl, sym}
use Prim.Native.Nat.{ℕ, ◌-◌}
use Rattle.std.proofs.Common.{rules}
use Rattle.std.proofs.lemmas.Iterator.{YieldsList-from_range}
use Rattle.std.proofs.lemmas.Iterator.Adapters.{option_map_id}
use Rattle.std.proofs.lemmas.Iterator.Search.{find_from_yields_List}
use Rattle.std.specs.List.{find, range_with_len}
use Rattle.std.specs.Option.{option_map, unwrap_or}
use Rattle.std.specs.declared.option.Option.{Option}
use Rattle.list_laws.proofs.FirstLaws.{find-first}
use Rattle.bzgrid_lookup.specs.Neighbours.{is_address}
use Rattle.bzgrid_lookup.proofs.kernel.first_address.Goals as goal

pub returns : goal.returns
returns c =
    let test = is_address c.args.addresses.now c.args.w in
    let f : option_map (λ (x : ℕ). x) c.find.result ≡ find test (range_with_len c.args.lo (c.args.hi - c.args.lo)) =
    find_from_yields_List test _ _ c.find.result c.find.ensures.ran (YieldsList-from_range c.args.lo c.args.hi (c.args.hi - c.args.lo) refl refl) (λ x b q k. search (rules, tests)) in
    c.unwrap_or.ensures ∙ ap (λ (r : Option ℕ). unwrap_or r c.args.lo) (sym (option_map_id c.find.result) ∙ f) ∙ find-first test c.args.lo (c.args.hi - c.args.lo) c.args.lo
