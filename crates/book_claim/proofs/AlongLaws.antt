-- A list of calls and the word of one piece, from any book: averaged words stay, who has run it, who has averaged it. Assumes nothing.
use mathlib.Core.Path.{◌≡◌, refl, sym, ap, ◌∙◌}
use mathlib.Core.Bool.{Bool, true, false, not, ◌&&◌, ◌||◌, cond}
use mathlib.Core.List.{List, [], ◌∷◌}
use Prim.Native.Nat.{ℕ, zero, suc, ◌+◌, ◌/◌, ◌<◌}
use native.Mathlib.Omega.{arith}
use lib.Dec.{eqb}
use lib.IntN.{ℤ}
use lib.ListN.{length, get_or}
use lib.Signed.{mag}
use borrow.Author.Tests.{eqb-true}
use Rattle.list_laws.proofs.BoolLaws.{clash}
use Rattle.list_laws.proofs.PatchLaws.{get_or-patch}
use Rattle.list_laws.specs.Lists.{one_if}
use Rattle.ask.specs.Ask.{after_call}
use Rattle.triplet_study.specs.Study.{Study, sizes_of}
use Rattle.sheet_tally.proofs.TallyLaws.{length_moved, count-moved}
use Rattle.sheet_step.specs.Steps.{Sheet, Call, run, carry, average}
use Rattle.book_claim.specs.Book.{word_at, Word, fresh, computed, averaged_by, Book, is_open, open_words, writes, book_no, turn, booked}
use Rattle.book_claim.specs.Counts.{runs_of, runs_accepted, runs_piece, has_run, averages, averagings, AveragedBy, is_averaged}
use Rattle.book_claim.proofs.TurnLaws.{On, on_word, turn-long, yes, kept, averaged-turn, open_turn}

-- ---- words by their lists

abbrev first_of : Word → List ℤ
first_of fresh = []
first_of computed = []
first_of (averaged_by ids1 ids2) = ids1

abbrev second_of : Word → List ℤ
second_of fresh = []
second_of computed = []
second_of (averaged_by ids1 ids2) = ids2

same_lists : (t : ℤ) (i1 i2 j1 j2 : List ℤ) → averaged_by i1 i2 ≡ averaged_by j1 j2 → average t i1 i2 ≡ average t j1 j2
same_lists t i1 i2 j1 j2 e = ap (λ (w : Word). average t (first_of w) (second_of w)) e

module _ (g : Study) (start : Sheet) where
  pub booked-long : (b : Book) (calls : List Call) → length (booked g start b calls).words ≡ length b.words
  booked-long b [] = refl
  booked-long b (c ∷ calls) = booked-long (turn g start b c) calls ∙ turn-long g start b c

  in-turn : (b : Book) (c : Call) (q : ℕ) → On g start b q → On g start (turn g start b c) q
  in-turn b c q h = (turn-long g start b c ∙ h.0, h.1)

  -- an averaged word stays under every list
  pub stays : (q : ℕ) (b : Book) (calls : List Call) → On g start b q → is_averaged (word_at b q) ≡ true → word_at (booked g start b calls) q ≡ word_at b q
  stays q b [] h av = refl
  stays q b (c ∷ calls) h av =
      let k : word_at (turn g start b c) q ≡ word_at b q = kept g start b q h c av in
      stays q (turn g start b c) calls (in-turn b c q h) (ap is_averaged k ∙ av) ∙ k

  -- a word is open after a list where it was, and no call of the list has run its piece
  pub open-along : (q : ℕ) (b : Book) (calls : List Call) → On g start b q
      → is_open (word_at (booked g start b calls) q) ≡ (is_open (word_at b q) && not (has_run g start b q calls))
  open-along q b [] h = none (is_open (word_at b q))
    where
      none : (x : Bool) → x ≡ (x && true)
      none true = refl
      none false = refl
  open-along q b (c ∷ calls) h =
      open-along q (turn g start b c) calls (in-turn b c q h)
      ∙ rw (open_turn g start b q h c) (both (is_open (word_at b q)) (after_call (book_no g start b c) (runs_piece g b q c) false) (has_run g start (turn g start b c) q calls))
    where
      both : (x r s : Bool) → ((x && not r) && not s) ≡ (x && not (r || s))
      both true true s = refl
      both true false s = refl
      both false r s = refl

  -- the averagings of its triplet: one where its word has become averaged, otherwise none
  pub averaged-along : (q : ℕ) (b : Book) (calls : List Call) → On g start b q
      → one_if (is_averaged (word_at b q)) + averagings g start b (q / (sizes_of g).pairs) calls ≡ one_if (is_averaged (word_at (booked g start b calls) q))
  averaged-along q b [] h = omega arith
  averaged-along q b (c ∷ calls) h =
      let one : _ = averaged-turn g start b q h c in
      let rest : _ = averaged-along q (turn g start b c) calls (in-turn b c q h) in
      omega arith

  -- ---- the averaging that has written an averaged word

  -- a word that becomes averaged under one call
  turned : (q : ℕ) (b : Book) (c : Call) (ids1 ids2 : List ℤ) → On g start b q → is_averaged (word_at b q) ≡ false → word_at (turn g start b c) q ≡ averaged_by ids1 ids2
      → (t : ℤ) × ((c ≡ average t ids1 ids2) × ((q / (sizes_of g).pairs ≡ mag t) × (book_no g start b c ≡ 0)))
  unfolding turn writes
  turned q b c ids1 ids2 h not_yet e =
      let f : _ = rw (not_yet, e) at (averaged-turn g start b q h c) in
      go c (book_no g start b c) refl (omega (arith, f)) e
    where
      lists : (t : ℤ) (j1 j2 : List ℤ) → eqb (q / (sizes_of g).pairs) (mag t) ≡ true → word_at (writes g b (average t j1 j2)) q ≡ averaged_by ids1 ids2
          → average t j1 j2 ≡ average t ids1 ids2
      lists t j1 j2 f w =
          same_lists t j1 j2 ids1 ids2
          (sym (get_or-patch (λ q. eqb (q / (sizes_of g).pairs) (mag t)) (λ q. averaged_by j1 j2) b.words q fresh (on_word g start b q h)
          ∙ ap (λ (u : Bool). cond u (averaged_by j1 j2) (word_at b q)) f) ∙ w)

      at-average : (t : ℤ) (j1 j2 : List ℤ) → book_no g start b (average t j1 j2) ≡ 0 → (u : Bool) → eqb (q / (sizes_of g).pairs) (mag t) ≡ u → one_if u ≡ 1
          → word_at (writes g b (average t j1 j2)) q ≡ averaged_by ids1 ids2
          → (t' : ℤ) × ((average t j1 j2 ≡ average t' ids1 ids2) × ((q / (sizes_of g).pairs ≡ mag t') × (book_no g start b (average t j1 j2) ≡ 0)))
      at-average t j1 j2 z true f s w = (t, (lists t j1 j2 f w, (eqb-true (q / (sizes_of g).pairs) (mag t) f, z)))
      at-average t j1 j2 z false f s w = absurd (omega arith)

      go : (c : Call) (n : ℕ) → book_no g start b c ≡ n → after_call n (one_if (averages (q / (sizes_of g).pairs) c)) 0 ≡ 1 → word_at (after_call n (writes g b c) b) q ≡ averaged_by ids1 ids2
          → (t : ℤ) × ((c ≡ average t ids1 ids2) × ((q / (sizes_of g).pairs ≡ mag t) × (book_no g start b c ≡ 0)))
      go (run worker t b1 b2) zero z s w = absurd (omega arith)
      go (carry worker) zero z s w = absurd (omega arith)
      go (average t j1 j2) zero z s w = at-average t j1 j2 z (eqb (q / (sizes_of g).pairs) (mag t)) refl s w
      go c (suc n) z s w = absurd (omega arith)

  pub averaged-by : (q : ℕ) (ids1 ids2 : List ℤ) (b : Book) (calls : List Call) → On g start b q → is_averaged (word_at b q) ≡ false
      → word_at (booked g start b calls) q ≡ averaged_by ids1 ids2 → AveragedBy g start b (q / (sizes_of g).pairs) ids1 ids2 calls
  averaged-by q ids1 ids2 b [] h not_yet e = clash (sym not_yet ∙ ap is_averaged e)
  averaged-by q ids1 ids2 b (c ∷ calls) h not_yet e =
      go (is_averaged (word_at (turn g start b c) q)) refl (λ f. averaged-by q ids1 ids2 (turn g start b c) calls (in-turn b c q h) f e)
    where
      go : (u : Bool) → is_averaged (word_at (turn g start b c) q) ≡ u
          → (is_averaged (word_at (turn g start b c) q) ≡ false → AveragedBy g start (turn g start b c) (q / (sizes_of g).pairs) ids1 ids2 calls)
          → AveragedBy g start b (q / (sizes_of g).pairs) ids1 ids2 (c ∷ calls)
      go true f later =
          let w : word_at (turn g start b c) q ≡ averaged_by ids1 ids2 = sym (stays q (turn g start b c) calls (in-turn b c q h) f) ∙ e in
          let this : _ = turned q b c ids1 ids2 h not_yet w in
          record {
            before = [];
            after = calls;
            named = this.0;
            parts = ap (λ (x : Call). x ∷ calls) this.1.0;
            triplet = this.1.1.0;
            accepted = ap (book_no g start b) (sym this.1.0) ∙ this.1.1.1;
          }
      go false f later =
          let rest : _ = later f in
          record {
            before = c ∷ rest.before;
            after = rest.after;
            named = rest.named;
            parts = ap (λ (l : List Call). c ∷ l) rest.parts;
            triplet = rest.triplet;
            accepted = rest.accepted;
          }

  -- ---- a piece that has run: a call was accepted, on a book of as many words

  pub ran-accepted : (q : ℕ) (b : Book) (calls : List Call) → has_run g start b q calls ≡ true
      → (x : Book) × ((length x.words ≡ length b.words) × ((c : Call) × (book_no g start x c ≡ 0)))
  ran-accepted q b [] e = clash e
  ran-accepted q b (c ∷ calls) e = go (book_no g start b c) refl e (ran-accepted q (turn g start b c) calls)
    where
      go : (n : ℕ) → book_no g start b c ≡ n → (after_call n (runs_piece g b q c) false || has_run g start (turn g start b c) q calls) ≡ true
          → (has_run g start (turn g start b c) q calls ≡ true → (x : Book) × ((length x.words ≡ length (turn g start b c).words) × ((d : Call) × (book_no g start x d ≡ 0))))
          → (x : Book) × ((length x.words ≡ length b.words) × ((d : Call) × (book_no g start x d ≡ 0)))
      go zero z f later = (b, (refl, (c, z)))
      go (suc n) z f later = let l : _ = later f in (l.0, (l.1.0 ∙ turn-long g start b c, l.1.1))

  -- ---- the tally

  tally-turn : (b : Book) (c : Call) (w : ℕ) → w < length b.tally
      → get_or (turn g start b c).tally w 0 ≡ get_or b.tally w 0 + after_call (book_no g start b c) (runs_of b w c) 0
  unfolding turn writes
  tally-turn b c w h = go c (book_no g start b c) refl
    where
      none : (n : ℕ) → n ≡ n + 0
      none n = omega arith

      go : (c : Call) (n : ℕ) → book_no g start b c ≡ n → get_or (after_call n (writes g b c) b).tally w 0 ≡ get_or b.tally w 0 + after_call n (runs_of b w c) 0
      go (run worker t b1 b2) zero e = count-moved b.tally worker 1 w (yes g start b (run worker t b1 b2) e).own.1.1.0 h
      go (carry worker) zero e = count-moved b.tally worker (open_words b.words) w (yes g start b (carry worker) e).own.0 h
      go (average t ids1 ids2) zero e = none (get_or b.tally w 0)
      go c (suc n) e = none (get_or b.tally w 0)

  pub tally-long : (b : Book) (c : Call) → length (turn g start b c).tally ≡ length b.tally
  unfolding turn writes
  tally-long b c = go c (book_no g start b c)
    where
      go : (c : Call) (n : ℕ) → length (after_call n (writes g b c) b).tally ≡ length b.tally
      go (run worker t b1 b2) zero = length_moved b.tally worker 1
      go (carry worker) zero = length_moved b.tally worker (open_words b.words)
      go (average t ids1 ids2) zero = refl
      go c (suc n) = refl

  pub tally-along : (b : Book) (calls : List Call) (w : ℕ) → w < length b.tally
      → get_or (booked g start b calls).tally w 0 ≡ get_or b.tally w 0 + runs_accepted g start b w calls
  tally-along b [] w h = omega arith
  tally-along b (c ∷ calls) w h =
      let one : _ = tally-turn b c w h in
      let rest : _ = tally-along (turn g start b c) calls w (rw (tally-long b c) h) in
      omega arith
