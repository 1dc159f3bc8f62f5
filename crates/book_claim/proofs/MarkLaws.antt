-- From a mark to what its piece holds: "Each mark tells which holds". Assumes nothing.
use mathlib.Core.Path.{◌≡◌, refl, sym, ap, subst, ◌∙◌}
use mathlib.Core.Bool.{not}
use mathlib.Core.List.{List}
use Prim.Native.Nat.{ℕ, ◌<◌}
use lib.ListN.{length, get_or, replicate}
use borrow.Author.Tests.{not-true, not-false}
use Rattle.triplet_study.specs.Study.{Study, sizes_of}
use Rattle.marks.specs.Bytes.{mark_at, places_in}
use Rattle.sheet_step.specs.Steps.{Sheet, Call, pieces_of}
use Rattle.book_claim.specs.Book.{word_at, Word, fresh, computed, averaged_by, is_open, mark_of, weight_by, flag_by, opened, booked}
use Rattle.book_claim.specs.Lists.{played}
use Rattle.book_claim.specs.Counts.{has_run}
use Rattle.book_claim.specs.Marked.{Entries, Tells}
use Rattle.book_claim.proofs.Words.{word-ran, word-averaged, averaged-once}
use Rattle.book_claim.proofs.Corollaries.{weight_is, flag_is, mark-is}

-- a start on which no piece is marked, any content, any tally; any list of calls; and a piece
module _ (g : Study) (start : Sheet) (unmarked : start.marks ≡ replicate (length start.marks) 0) (calls : List Call) (q : ℕ) (on : q < pieces_of (sizes_of g)) where
  -- its entries are what its word says
  by_word : (w : Word) → word_at (booked g start (opened g start) calls) q ≡ w → Entries g start calls q (weight_by g w) (flag_by g w)
  by_word w e =
      record {
        weights = λ i d h p.
            weight_is g start unmarked calls i d h
            ∙ ap (λ (x : Word). weight_by g x i (get_or start.weights i d)) (ap (word_at (booked g start (opened g start) calls)) p ∙ e);
        flags = λ j d h p.
            flag_is g start unmarked calls j d h
            ∙ ap (λ (x : Word). flag_by g x j (get_or start.flags j d)) (ap (word_at (booked g start (opened g start) calls)) p ∙ e);
      }

  ran-is : (w : Word) → word_at (booked g start (opened g start) calls) q ≡ w → not (has_run g start (opened g start) q calls) ≡ is_open w
  ran-is w e = sym (word-ran g start calls q on) ∙ ap is_open e

  told : (w : Word) → word_at (booked g start (opened g start) calls) q ≡ w → Tells g start calls q (mark_of w)
  unfolding weight_by flag_by
  told fresh e = record { never-run = not-true (has_run g start (opened g start) q calls) (ran-is fresh e); entries = by_word fresh e }
  told computed e =
      record {
        has-run = not-false (has_run g start (opened g start) q calls) (ran-is computed e);
        not-averaged = word-averaged g start calls q on ∙ rw e;
        entries = by_word computed e;
      }
  told (averaged_by ids1 ids2) e =
      record {
        has-run = not-false (has_run g start (opened g start) q calls) (ran-is (averaged_by ids1 ids2) e);
        ids1 = ids1;
        ids2 = ids2;
        averaged = (averaged-once g start calls q ids1 ids2 on e).0;
        once = (averaged-once g start calls q ids1 ids2 on e).1;
        entries = by_word (averaged_by ids1 ids2) e;
      }

  -- "Each mark tells which holds": 0 the old content, 1 the study's weights and flag, 2 the average by the one accepted averaging, and no other
  -- mark occurs. Back, from the calls to the mark: `old-mark`, `computed-mark`, `averaged-mark`.
  pub mark-tells : q < places_in start.marks → Tells g start calls q (mark_at (played g start calls).marks q)
  mark-tells l =
      subst (λ (m : ℕ). Tells g start calls q m) (sym (mark-is g start unmarked calls q l)) (told (word_at (booked g start (opened g start) calls) q) refl)
