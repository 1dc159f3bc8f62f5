-- `sheet_list::along::play_all` meets its contract.
use Rattle.ask.proofs.RefusalLaws.{first-low, refused-not, refused-told}
use Rattle.sheet_list.proofs.ListLaws.{outcome-refused}
use Rattle.sheet_play.specs.Outcomes.{outcome}
use Rattle.sheet_step.proofs.StepLaws.{common_of}
use Rattle.sheet_step.specs.Lent.{sheet_of}
use Rattle.sheet_step.specs.Steps.{Sheet}
use Rattle.sheet_turn.specs.Turns.{common_no}
use Rattle.triplet_study.specs.Lent.{study_of}
use Prim.Native.Nat.{ℕ}
use lib.ListN.{length, replicate}
use Rattle.std.proofs.Common.{rules}
use mathlib.Core.Path.{◌≡◌, ◌∙◌, refl, sym}
use Rattle.sheet_list.proofs.along.play_all.Goals.{Start}
use Rattle.sheet_list.proofs.along.play_all.Goals as goal

abbrev start : Start → Sheet
start s = sheet_of s.args.sheet.now s.args.before.runs

pub returns-in-Err-clause-played : goal.returns-in-Err-clause-played
returns-in-Err-clause-played c =
    let s : Sheet = start (goal.at.returns-in-Err-clause-played c).Start in
    let told : _ = rw (c.marks.ensures, c.in-Err.is) at c.ask_common.ensures.asked in
    let e : c.number.result ≡ common_no (study_of c.args.study) s = c.number.ensures ∙ (refused-told {B = ℕ} _ c.in-Err.why tt 0 0 (first-low (common_of (study_of c.args.study) s) refl) told).0 in
    let filled : c.fill.new.self ≡ replicate (length c.args.list.now.answers.now) c.number.result = search rules in
    (λ i. outcome s (filled i) (c.fill_tallies.ensures i))
    ∙ outcome-refused (study_of c.args.study) s c.args.list.now.calls.list.now c.args.list.now.calls.ids.now (length c.args.list.now.answers.now) c.args.list.now.room.listed c.number.result e (λ z. refused-not _ _ tt told (sym e ∙ z))
