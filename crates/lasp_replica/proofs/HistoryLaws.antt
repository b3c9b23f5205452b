-- A history goes on with the journal, and tells what changed since any of its entries.
use Rattle.std.proofs.Common.{◌≡◌, ℕ, ◌+◌, ◌≤◌, ◌<◌, max, ◌⊎◌, inl, inr, ◌↔◌, IsTrue, List, [], ◌∷◌, ◌++◌, length, take, drop, refl, sym, ap, subst, ◌∙◌, arith, append-nil}
use Rattle.model_values.specs.Row.{Row}
use Rattle.model_sets.specs.Rows.{IsAscending, of_rows, join}
use Rattle.model_sets.specs.Equations.{changed}
use Rattle.model_sets.proofs.RowLaws.{ascending-of_rows, at_most-antisymmetric}
use Rattle.model_states.specs.Content.{Content, least, at_row, at_value, at_count, at_top, IsContentAtMost, IsOrdered}
use Rattle.model_states.proofs.ContentLaws.{at_most-itself, at_most-chain, at_most-least}
use Rattle.model_graph.specs.Graph.{Kind, OrSet, GSet, Counter, MaxReg, Union, Product, Intersection, Map, Filter, Fold, Decl, is_set, kind_at, no_decl}
use Rattle.model_graph.specs.Evaluation.{least_of, content_at}
use Rattle.model_graph.specs.Increment.{IsChange}
use Rattle.model_graph.proofs.PlaceLaws.{at-past, at-last, at-map, length-append, below-or-not}
use Rattle.model_states.proofs.CountLaws.{count_at-zeros}
use Rattle.model_journal.specs.Entry.{Entry, Frame, Extend}
use Rattle.model_journal.specs.Journal.{Journal, journal, graph, vals, val}
use Rattle.model_journal.specs.Clean.{version}
use Rattle.model_journal.specs.Legal.{IsLegal}
use Rattle.model_journal.proofs.PlaceLaws.{take-front, take-whole}
use Rattle.model_journal.proofs.GraphLaws.{graph-keeps}
use Rattle.model_journal.proofs.StepLaws.{after-ordered}
use Rattle.model_journal.proofs.GoodLaws.{now-tidy}
use Rattle.model_journal.proofs.JournalLaws.{journal-push, journal-good, journal-later, vals-grow}
use Rattle.model_journal.proofs.CleanLaws.{take-and-drop}
use Rattle.model_journal.proofs.EntryLaws.{version-still, version-up, extend-vals}
use Rattle.lasp_replica.specs.History.{Growth, History, no_history, grown, version_before, rows_before, AreBelow, AreSound, IsHistory}
use Rattle.model_sets.specs.Rises.{AreRises}
use Rattle.model_sets.proofs.RiseLaws.{nothing-marked, join-parts, rest-changed, log-news, rises-news}
use Rattle.lasp_replica.proofs.GrowthLaws.{below-more, below-push, version-all, version-push-low, version-push-high, rows-push-low, rows-push-high, rows-most, rows-all, ascend-push}

-- ---- what a history tells

-- after all entries the growths are all
pub history-version : (X : Frame) (entries : List Entry) (x : ℕ) (h : History) → IsHistory X entries x h → version X entries x ≡ length h.growths
history-version X entries x h is =
    ap (λ (es : List Entry). version X es x) (sym (take-whole entries (length entries) (omega arith)))
    ∙ is.versions (length entries) (omega arith) ∙ version-all (length entries) h.growths is.below

-- the variable has not grown since the first n entries exactly where no growth happened from n on
pub history-still_since : (X : Frame) (entries : List Entry) (x : ℕ) (h : History) → IsHistory X entries x h → (n : ℕ) → n ≤ length entries
    → (version_before h.growths n ≡ length h.growths) ↔ (version X (take n entries) x ≡ version X entries x)
history-still_since X entries x h is n low =
    let before = is.versions n low in
    let now = history-version X entries x h is in
    (λ e. before ∙ e ∙ sym now, λ e. sym before ∙ e ∙ now)

-- all rows of the log are in the set
pub history-rows : (X : Frame) (entries : List Entry) (x : ℕ) (h : History) → IsHistory X entries x h → IsTrue (is_set (kind_at (graph X entries) x)) → (val X entries x).rows ≡ of_rows h.log
history-rows X entries x h is set =
    let all : max 0 (rows_before h.growths (length entries)) ≡ length h.log = rows-all (length entries) 0 0 h.growths (length h.log) is.counted is.below in
    ap (λ (es : List Entry). (val X es x).rows) (sym (take-whole entries (length entries) (omega arith)))
    ∙ is.rows set (length entries) (omega arith)
    ∙ ap of_rows (take-whole h.log (rows_before h.growths (length entries)) (omega (arith, all)))

pub history-changed : (X : Frame) (entries : List Entry) (x : ℕ) (h : History) → IsHistory X entries x h → IsTrue (is_set (kind_at (graph X entries) x)) → (n : ℕ) → n ≤ length entries
    → of_rows (drop (rows_before h.growths n) h.log) ≡ changed (val X (take n entries) x).rows (val X entries x).rows
history-changed X entries x h is set n low =
    rest-changed h.log (rows_before h.growths n) is.rises
    ∙ (λ i. changed (sym (is.rows set n low) i) (sym (history-rows X entries x h is set) i))

pub history-change : (X : Frame) (entries : List Entry) (x : ℕ) (h : History) → IsHistory X entries x h → IsTrue (is_set (kind_at (graph X entries) x)) → (n : ℕ) → n ≤ length entries
    → IsChange (val X (take n entries) x).rows (of_rows (drop (rows_before h.growths n) h.log)) (val X entries x).rows
history-change X entries x h is set n low =
    let m = rows_before h.growths n in
    record {
      was = subst IsAscending (sym (is.rows set n low)) (ascending-of_rows (take m h.log));
      ascends = ascending-of_rows (drop m h.log);
      joined = ap (λ (s : List Row). join s (of_rows (drop m h.log))) (is.rows set n low) ∙ join-parts h.log m ∙ sym (history-rows X entries x h is set);
    }

-- ---- a variable without a history

-- what is at most least has no rows
least-rows : (s : Content) → IsContentAtMost s least → s.rows ≡ []
least-rows s low = nothing-marked s.rows (λ v w. omega (arith, low (at_row v w)))

-- a variable that is least after some entries has not grown
least-version : (X : Frame) (entries : List Entry) (x : ℕ) → IsContentAtMost (val X entries x) least → version X entries x ≡ 0
least-version X entries x low = choose (below-or-not 0 (version X entries x)) where
  choose : (0 < version X entries x) ⊎ (version X entries x ≤ 0) → version X entries x ≡ 0
  choose (inl up) = absurd ((journal-later X [] entries).moved x up (at_most-chain (val X entries x) least (val X [] x) low (at_most-least (val X [] x))))
  choose (inr none) = omega (arith, none)

-- a variable that was least all along has no history
least-history : (X : Frame) (entries : List Entry) (x : ℕ) → ((n : ℕ) → n ≤ length entries → IsContentAtMost (val X (take n entries) x) least) → IsHistory X entries x no_history
least-history X entries x low = record {
  versions = λ n h. least-version X (take n entries) x (low n h);
  below = tt;
  rows = λ set n h. least-rows (val X (take n entries) x) (low n h);
  rises = tt;
  counted = refl;
}

-- what a kind has before anything happened is at most anything
least_of-low : (nodes : ℕ) (k : Kind) → IsContentAtMost (least_of nodes k) least
least_of-low nodes OrSet = at_most-itself least
least_of-low nodes GSet = at_most-itself least
least_of-low nodes Counter = counter where
  counter : IsContentAtMost (least_of nodes Counter) least
  counter (at_row v w) = omega arith
  counter (at_value v) = omega arith
  counter (at_count q) = omega (arith, count_at-zeros nodes q)
  counter (at_top n) = omega arith
least_of-low nodes MaxReg = at_most-itself least
least_of-low nodes (Union x y) = at_most-itself least
least_of-low nodes (Product x y) = at_most-itself least
least_of-low nodes (Intersection x y) = at_most-itself least
least_of-low nodes (Map x place ops) = at_most-itself least
least_of-low nodes (Filter x place ops) = at_most-itself least
least_of-low nodes (Fold x op place lift) = at_most-itself least

-- before the first entry
pub history-fresh : (X : Frame) (x : ℕ) → IsHistory X [] x no_history
history-fresh X x = least-history X [] x (λ n low. subst (λ (es : List Entry). IsContentAtMost (val X es x) least) (sym (take-whole {A = Entry} [] n (omega arith)))
    (subst (λ (s : Content). IsContentAtMost s least) (sym (at-map (λ d. least_of X.nodes d.kind) X.opening x no_decl)) (least_of-low X.nodes (kind_at X.opening x))))

-- what was true after the first n entries, and is true after all, with one entry more
each-first : (P : List Entry → Type 0) (entries : List Entry) (e : Entry) (n : ℕ) → n ≤ length (entries ++ e ∷ []) → (n ≤ length entries → P (take n entries)) → (length entries < n → P (entries ++ e ∷ [])) → P (take n (entries ++ e ∷ []))
each-first P entries e n low old new = choose (below-or-not n (length entries + 1)) where
  choose : (n < length entries + 1) ⊎ (length entries + 1 ≤ n) → P (take n (entries ++ e ∷ []))
  choose (inl h) = subst P (sym (take-front entries (e ∷ []) n (omega (arith, h)))) (old (omega (arith, h)))
  choose (inr h) = subst P (sym (take-whole (entries ++ e ∷ []) n (omega (arith, h, length-append entries (e ∷ []))))) (new (omega (arith, h)))

-- the variable that an entry declares
pub history-declared : (X : Frame) (entries : List Entry) → IsLegal X entries → (e : Entry) (d : Decl) → e.act ≡ Extend d → IsHistory X (entries ++ e ∷ []) (length (graph X entries)) no_history
history-declared X entries legal e d is = least-history X (entries ++ e ∷ []) x
    (λ n low. each-first (λ (es : List Entry). IsContentAtMost (val X es x) least) entries e n low (λ h. before n) (λ h. declared)) where
      x : ℕ
      x = length (graph X entries)

      shape : length (vals X entries) ≡ length (graph X entries)
      shape = (journal-good X entries legal).shape

      now : val X entries x ≡ least
      now = at-past (vals X entries) x least (omega (arith, shape))

      before : (n : ℕ) → IsContentAtMost (val X (take n entries) x) least
      before n = subst (λ (s : Content). IsContentAtMost (val X (take n entries) x) s) now
          (subst (λ (es : List Entry). IsContentAtMost (val X (take n entries) x) (val X es x)) (take-and-drop entries n) (vals-grow X (take n entries) (drop n entries) x))

      declared : IsContentAtMost (val X (entries ++ e ∷ []) x) least
      declared = subst (λ (s : Content). IsContentAtMost s least)
          (sym (ap (λ (ss : List Content). content_at ss x) (extend-vals X entries e d is) ∙ subst (λ (i : ℕ). content_at (vals X entries ++ least_of X.nodes d.kind ∷ []) i ≡ least_of X.nodes d.kind) shape (at-last (vals X entries) (least_of X.nodes d.kind) least)))
          (least_of-low X.nodes d.kind)

-- ---- one entry more

-- the kind of a declared variable stays
kind-stays : (X : Frame) (entries : List Entry) (e : Entry) (x : ℕ) → x < length (graph X entries) → kind_at (graph X (entries ++ e ∷ [])) x ≡ kind_at (graph X entries) x
kind-stays X entries e x low = ap (λ (j : Journal). kind_at j.now.graph x) (journal-push X entries e) ∙ ap (λ (d : Decl). d.kind) (graph-keeps (graph X entries) e.act x low)

-- growths below all entries are all below more, and their rows are all
rows-whole : (entries : List Entry) (h : History) (n : ℕ) → AreBelow (length entries) h.growths → AreSound h.log h.growths → length entries < n → take (rows_before h.growths n) h.log ≡ h.log
rows-whole entries h n below counted high =
    let all : max 0 (rows_before h.growths n) ≡ length h.log = rows-all n 0 0 h.growths (length h.log) counted (below-more (length entries) n h.growths (omega (arith, high)) below) in
    take-whole h.log (rows_before h.growths n) (omega (arith, all))

-- after an entry at which the variable didn't grow
pub history-still : (X : Frame) (entries : List Entry) (x : ℕ) (h : History) → IsHistory X entries x h → (e : Entry) → x < length (graph X entries)
    → IsContentAtMost (val X (entries ++ e ∷ []) x) (val X entries x) → (val X (entries ++ e ∷ []) x).rows ≡ (val X entries x).rows → IsHistory X (entries ++ e ∷ []) x h
history-still X entries x h is e declared low same = record {
  versions = λ n small. each-first (λ (es : List Entry). version X es x ≡ version_before h.growths n) entries e n small (λ old. is.versions n old)
      (λ high. version-still X entries e x low ∙ history-version X entries x h is ∙ sym (version-all n h.growths (below-more (length entries) n h.growths (omega (arith, high)) is.below)));
  below = below-more (length entries) (length (entries ++ e ∷ [])) h.growths (omega (arith, length-append entries (e ∷ []))) is.below;
  rows = λ set n small.
      let was : IsTrue (is_set (kind_at (graph X entries) x)) = subst (λ (k : Kind). IsTrue (is_set k)) (kind-stays X entries e x declared) set in
      each-first (λ (es : List Entry). (val X es x).rows ≡ of_rows (take (rows_before h.growths n) h.log)) entries e n small (λ old. is.rows was n old)
      (λ high. same ∙ history-rows X entries x h is was ∙ ap of_rows (sym (rows-whole entries h n is.below is.counted high)));
  rises = is.rises;
  counted = is.counted;
}

-- after an entry at which the variable grew
pub history-grown : (X : Frame) (entries : List Entry) (x : ℕ) (h : History) → IsHistory X entries x h → (e : Entry) → x < length (graph X entries)
    → (IsContentAtMost (val X (entries ++ e ∷ []) x) (val X entries x) → ⊥) → (news : List Row)
    → (IsTrue (is_set (kind_at (graph X entries) x)) → of_rows (h.log ++ news) ≡ (val X (entries ++ e ∷ []) x).rows) → AreRises [] (h.log ++ news)
    → IsHistory X (entries ++ e ∷ []) x (grown h news (length entries))
history-grown X entries x h is e declared grew news now rises = record {
  versions = λ n small. each-first (λ (es : List Entry). version X es x ≡ version_before (h.growths ++ g ∷ []) n) entries e n small
      (λ old. is.versions n old ∙ sym (version-push-low n h.growths g old))
      (λ high. version-up X entries e x grew ∙ omega (
        arith,
        history-version X entries x h is,
        version-all n h.growths (below-more (length entries) n h.growths (omega (arith, high)) is.below),
        version-push-high n h.growths g high,
      ));
  below = below-push (length (entries ++ e ∷ [])) h.growths g (below-more (length entries) (length (entries ++ e ∷ [])) h.growths (omega (arith, longer)) is.below) (omega (arith, longer));
  rows = λ set n small.
      let was : IsTrue (is_set (kind_at (graph X entries) x)) = subst (λ (k : Kind). IsTrue (is_set k)) (kind-stays X entries e x declared) set in
      each-first (λ (es : List Entry). (val X es x).rows ≡ of_rows (take (rows_before (h.growths ++ g ∷ []) n) (h.log ++ news))) entries e n small
      (λ old. is.rows was n old ∙ ap of_rows (sym (ap (λ (m : ℕ). take m (h.log ++ news)) (rows-push-low n h.growths g old) ∙ take-front h.log news (rows_before h.growths n) (most n))))
      (λ high. sym (now was) ∙ ap of_rows (sym (take-whole (h.log ++ news) (rows_before (h.growths ++ g ∷ []) n)
      (omega (arith, rows-push-high n h.growths g high (omega (arith, most n, length-append h.log news)))))));
  rises = rises;
  counted = ascend-push 0 0 (length entries) (length (h.log ++ news)) h.growths (length h.log) is.counted is.below (omega arith) (omega (arith, length-append h.log news));
} where
  g : Growth
  g = record { entry = length entries; rows = length (h.log ++ news) }

  longer : length (entries ++ e ∷ []) ≡ length entries + 1
  longer = length-append entries (e ∷ [])

  most : (n : ℕ) → rows_before h.growths n ≤ length h.log
  most n = rows-most n 0 0 h.growths (length h.log) is.counted

-- ---- what a replica does at an entry

-- after an entry at which the variable didn't grow, of a legal journal: its rows stayed
pub history-unmoved : (X : Frame) (entries : List Entry) → IsLegal X entries → (x : ℕ) (h : History) → IsHistory X entries x h → (e : Entry) → x < length (graph X entries)
    → IsContentAtMost (val X (entries ++ e ∷ []) x) (val X entries x) → IsHistory X (entries ++ e ∷ []) x h
history-unmoved X entries legal x h is e declared low = history-still X entries x h is e declared low
    (at_most-antisymmetric (val X (entries ++ e ∷ []) x).rows (val X entries x).rows after (before x).rows (λ v w. low (at_row v w)) (λ v w. vals-grow X entries (e ∷ []) x (at_row v w))) where
      before : (y : ℕ) → IsOrdered (val X entries y)
      before = now-tidy X (journal X entries) (journal-good X entries legal)

      after : IsAscending (val X (entries ++ e ∷ []) x).rows
      after = subst (λ (j : Journal). IsAscending (content_at j.now.contents x).rows) (sym (journal-push X entries e)) (after-ordered X (journal X entries) e.act before x).rows

-- after an entry at which these rows were joined into a set and made it grow
pub history-joined : (X : Frame) (entries : List Entry) (x : ℕ) (h : History) → IsHistory X entries x h → (e : Entry) → x < length (graph X entries)
    → (IsContentAtMost (val X (entries ++ e ∷ []) x) (val X entries x) → ⊥) → IsTrue (is_set (kind_at (graph X entries) x)) → (delta : List Row) → IsAscending delta
    → (val X (entries ++ e ∷ []) x).rows ≡ join (val X entries x).rows delta → IsHistory X (entries ++ e ∷ []) x (grown h (changed (val X entries x).rows delta) (length entries))
history-joined X entries x h is e declared grew set delta up joined =
    let rows = sym (history-rows X entries x h is set) in
    history-grown X entries x h is e declared grew (changed (val X entries x).rows delta)
    (λ again. log-news h.log (val X entries x).rows delta rows ∙ sym joined) (rises-news h.log (val X entries x).rows delta up is.rises rows)

-- after an entry at which a variable that is no set grew
pub history-plain : (X : Frame) (entries : List Entry) (x : ℕ) (h : History) → IsHistory X entries x h → (e : Entry) → x < length (graph X entries)
    → (IsContentAtMost (val X (entries ++ e ∷ []) x) (val X entries x) → ⊥) → (IsTrue (is_set (kind_at (graph X entries) x)) → ⊥) → IsHistory X (entries ++ e ∷ []) x (grown h [] (length entries))
history-plain X entries x h is e declared grew plain =
    history-grown X entries x h is e declared grew [] (λ set. absurd (plain set)) (subst (λ (log : List Row). AreRises [] log) (sym (append-nil h.log)) is.rises)

pub ruleset histories = (history-version, history-still_since, history-changed)

pub ruleset fresh = (history-fresh)
