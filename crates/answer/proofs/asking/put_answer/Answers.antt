-- `answer::asking::put_answer` meets its contract.
use mathlib.Core.Path.{◌∙◌, ◌≡◌, ap, refl, sym}
use Rattle.answer_weights.proofs.ListedLaws.{wrote_so}
use Rattle.answer_weights.specs.Asked.{questions_of}
use Rattle.answer.proofs.AnswerLaws.{answer-refused}
use Rattle.ask.specs.Ask.{first_no}
use Rattle.ask.specs.Refusals.{number_of, refusal_number}
use Rattle.ask.proofs.RefusalLaws.{first-low, number-is, refused-not}
use Rattle.triplet_study.specs.Lent.{study_of}
use Rattle.answer.proofs.asking.put_answer.Goals.{In-Err}
use Rattle.answer.proofs.asking.put_answer.Goals as goal

-- the number that is written is that of the first no
told : (c : In-Err) → refusal_number c.in-Err.why ≡ first_no (questions_of (study_of c.args.study))
told c =
    ap number_of c.in-Err.ensures ∙ number-is (first_no (questions_of (study_of c.args.study))) tt (first-low (questions_of (study_of c.args.study)) refl)

pub returns-in-Err : goal.returns-in-Err
returns-in-Err c =
    wrote_so _ _ _ _ _ c.put_refused.ensures.0 c.put_refused.ensures.1
    (answer-refused (study_of c.args.study) (refusal_number c.in-Err.why) (told (goal.at.returns-in-Err c).In-Err)
    (λ z. refused-not (first_no (questions_of (study_of c.args.study))) c.in-Err.why tt c.in-Err.ensures (sym (told (goal.at.returns-in-Err c).In-Err) ∙ z)))
