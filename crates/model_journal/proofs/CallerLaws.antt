-- What caller 0 feeds tells the graph, the counts and the sources; binds change derived variables alone.
use Rattle.std.proofs.Common.{◌≡◌, ℕ, zero, suc, ◌+◌, ◌≤◌, ◌<◌, ◌⊎◌, inl, inr, ◌↔◌, Bool, true, false, cond, if◌then◌else◌, ◌==◌, IsTrue, List, [], ◌∷◌, ◌++◌, length, Option, Some, None, refl, sym, ap, subst, ◌∙◌, arith}
use Rattle.std.proofs.lemmas.Bool.Decides.{nat_tests}
use Rattle.model_states.specs.Counts.{count_at}
use Rattle.model_states.specs.Content.{Content, least}
use Rattle.model_states.specs.Update.{delta}
use Rattle.model_graph.specs.Graph.{Decl, is_source, kind_at}
use Rattle.model_graph.specs.Evaluation.{content_at, equation}
use Rattle.model_graph.proofs.PlaceLaws.{at-past, length-append, below-or-not, equal-numbers}
use Rattle.model_graph.specs.Message.{brought, with_gain, gained}
use Rattle.model_journal.specs.Entry.{Act, Update, Deliver, Bind, Extend, Entry, Frame}
use Rattle.model_journal.specs.Journal.{Snapshot, Journal, snapshot_at, gain, opened, contents_after, graph_after, counts_after, snapshot_after, next, run, start, journal, graph, val, counts}
use Rattle.model_journal.specs.Callers.{MayMake, AreMadeByTheirCallers, made_by}
use Rattle.model_journal.specs.Legal.{IsLawful, IsLegalFrom, IsLegal}
use Rattle.model_graph.proofs.MessageLaws.{gained-length}
use Rattle.model_journal.proofs.GraphLaws.{graph-keeps}
use Rattle.model_journal.proofs.StepLaws.{after-at}
use Rattle.model_journal.proofs.GoodLaws.{IsGood, to-now, start-good}
use Rattle.model_journal.proofs.NextLaws.{op-of-source, next-good}

-- only binds are anybody's
may-words : (by : ℕ) (act : Act) → MayMake by act → (by ≡ 0) ⊎ ((y : ℕ) × (n : ℕ) × (act ≡ Bind y n))
may-words by (Update y op) may = inl may
may-words by (Deliver i m) may = inl may
may-words by (Bind y n) may = inr (y, n, refl)
may-words by (Extend d) may = inl may

words-may : (by : ℕ) (act : Act) → (by ≡ 0) ⊎ ((y : ℕ) × (n : ℕ) × (act ≡ Bind y n)) → MayMake by act
words-may by (Update y op) (inl e) = e
words-may by (Deliver i m) (inl e) = e
words-may by (Bind y n) (inl e) = tt
words-may by (Extend d) (inl e) = e
words-may by act (inr is) = subst (λ (a : Act). MayMake by a) (sym is.2) tt

pub callers-words : (by : ℕ) (act : Act) → MayMake by act ↔ ((by ≡ 0) ⊎ ((y : ℕ) × (n : ℕ) × (act ≡ Bind y n)))
callers-words by act = (may-words by act, words-may by act)

-- ---- snapshots that agree but for derived variables

record Agree (a b : Snapshot) : Type 0 where
  graph : a.graph ≡ b.graph
  counts : a.counts ≡ b.counts
  long : length a.contents ≡ length b.contents
  sources : (x : ℕ) → is_source (kind_at a.graph x) ≡ true → content_at a.contents x ≡ content_at b.contents x

past-same : (ss ts us : List Content) (x : ℕ) → length ss ≡ length ts → length ss ≤ x → content_at (ss ++ us) x ≡ content_at (ts ++ us) x
past-same [] [] us x e h = refl
past-same [] (t ∷ ts) us x e h = absurd (omega (arith, e))
past-same (s ∷ ss) [] us x e h = absurd (omega (arith, e))
past-same (s ∷ ss) (t ∷ ts) us zero e h = absurd (omega (arith, h))
past-same (s ∷ ss) (t ∷ ts) us (suc x) e h = past-same ss ts us x (omega (arith, e)) (omega (arith, h))

-- a bind brings nothing to a source
bind-none : (X : Frame) (j : Journal) → IsGood X j → (y n : ℕ) → IsLawful X j (Bind y n) → (c : Content) (x : ℕ) → is_source (kind_at j.now.graph x) ≡ true → (if x == y then Some c else None) ≡ None
bind-none X j good y n lawful c x source = choose (x == y) refl where
  choose : (b : Bool) → (x == y) ≡ b → (if b then Some c else None) ≡ None
  choose false e = refl
  choose true e =
      let here : is_source (kind_at j.now.graph y) ≡ true = subst (λ (z : ℕ). is_source (kind_at j.now.graph z) ≡ true) (equal-numbers x y e) source in
      let process : is_source (kind_at j.now.graph y) ≡ false = ap (λ (d : Decl). is_source d.kind) ((to-now X j good n).kept y lawful.1.declared) ∙ lawful.1.process in
      absurd cc

-- what a source gains is the same where what stands agrees
gain-agrees : (X : Frame) (j k : Journal) → IsGood X j → (act : Act) → IsLawful X j act → Agree j.now k.now → (x : ℕ) → is_source (kind_at j.now.graph x) ≡ true → gain X j act x ≡ gain X k act x
gain-agrees X j k good (Update y op) lawful agree x source =
    let same = agree.sources y (op-of-source (kind_at j.now.graph y) op lawful.1) in
    λ i. if x == y then Some (delta op (same i) X.replica (count_at (agree.counts i) X.replica + 1)) else None
gain-agrees X j k good (Deliver number m) lawful agree x source = λ i. brought (agree.graph i) m x
gain-agrees X j k good (Bind y n) lawful agree x source =
    bind-none X j good y n lawful (equation (kind_at j.now.graph y) (snapshot_at j n).contents) x source
    ∙ sym (bind-none X j good y n lawful (equation (kind_at k.now.graph y) (snapshot_at k n).contents) x source)
gain-agrees X j k good (Extend d) lawful agree x source = refl

step-agrees : (X : Frame) (j k : Journal) → IsGood X j → (act : Act) → IsLawful X j act → Agree j.now k.now → Agree (snapshot_after X j act) (snapshot_after X k act)
step-agrees X j k good act lawful agree = record {
  graph = ap (λ (g : List Decl). graph_after g act) agree.graph;
  counts = ap (λ (cs : List ℕ). counts_after X cs act) agree.counts;
  long = omega (arith, agree.long, length-append ss (opened X.nodes act), length-append ts (opened X.nodes act), gained-length (gain X j act) 0 j.now.contents, gained-length (gain X k act) 0 k.now.contents);
  sources = λ x e. choose x e (below-or-not x (length j.now.contents));
} where
  ss : List Content
  ss = gained (gain X j act) 0 j.now.contents

  ts : List Content
  ts = gained (gain X k act) 0 k.now.contents

  choose : (x : ℕ) → is_source (kind_at (graph_after j.now.graph act) x) ≡ true → (x < length j.now.contents) ⊎ (length j.now.contents ≤ x) → content_at (contents_after X j act) x ≡ content_at (contents_after X k act) x
  choose x e (inl low) =
      let source : is_source (kind_at j.now.graph x) ≡ true = ap (λ (d : Decl). is_source d.kind) (sym (graph-keeps j.now.graph act x (omega (arith, low, good.shape)))) ∙ e in
      after-at X j act x low
      ∙ (λ i. with_gain (agree.sources x source i) (gain-agrees X j k good act lawful agree x source i))
      ∙ sym (after-at X k act x (omega (arith, low, agree.long)))
  choose x e (inr past) = past-same ss ts (opened X.nodes act) x (omega (arith, agree.long, gained-length (gain X j act) 0 j.now.contents, gained-length (gain X k act) 0 k.now.contents)) (omega (arith, past, gained-length (gain X j act) 0 j.now.contents))

-- an entry of another caller is a bind, and changes none of them
bind-agrees : (X : Frame) (j : Journal) (b : Snapshot) → IsGood X j → (y n : ℕ) → IsLawful X j (Bind y n) → Agree j.now b → Agree (snapshot_after X j (Bind y n)) b
bind-agrees X j b good y n lawful agree = record {
  graph = agree.graph;
  counts = agree.counts;
  long = omega (arith, agree.long, whole);
  sources = λ x e. choose x e (below-or-not x (length j.now.contents));
} where
  ss : List Content
  ss = gained (gain X j (Bind y n)) 0 j.now.contents

  whole : length (ss ++ []) ≡ length j.now.contents
  whole = omega (arith, length-append ss [], gained-length (gain X j (Bind y n)) 0 j.now.contents)

  choose : (x : ℕ) → is_source (kind_at j.now.graph x) ≡ true → (x < length j.now.contents) ⊎ (length j.now.contents ≤ x) → content_at (ss ++ []) x ≡ content_at b.contents x
  choose x e (inl low) =
      after-at X j (Bind y n) x low
      ∙ ap (λ (o : Option Content). with_gain (content_at j.now.contents x) o) (bind-none X j good y n lawful (equation (kind_at j.now.graph y) (snapshot_at j n).contents) x e)
      ∙ agree.sources x e
  choose x e (inr past) = at-past (ss ++ []) x least (omega (arith, past, whole)) ∙ sym (at-past b.contents x least (omega (arith, past, agree.long)))

other-agrees : (X : Frame) (j : Journal) (b : Snapshot) (by : ℕ) (act : Act) → IsGood X j → IsLawful X j act → MayMake by act → (by == 0) ≡ false → Agree j.now b → Agree (snapshot_after X j act) b
other-agrees X j b by (Update y op) good lawful may other agree = absurd (grind (arith, nat_tests, may, other))
other-agrees X j b by (Deliver i m) good lawful may other agree = absurd (grind (arith, nat_tests, may, other))
other-agrees X j b by (Extend d) good lawful may other agree = absurd (grind (arith, nat_tests, may, other))
other-agrees X j b by (Bind y n) good lawful may other agree = bind-agrees X j b good y n lawful agree

run-agrees : (X : Frame) (j k : Journal) (h : List Entry) → IsGood X j → IsLegalFrom X j h → AreMadeByTheirCallers h → Agree j.now k.now → Agree (run X j h).now (run X k (made_by 0 h)).now
run-agrees X j k [] good legal made agree = agree
run-agrees X j k (e ∷ h) good legal made agree =
    choose (e.by == 0) refl
    (λ a. run-agrees X (next X j e) (next X k e) h (next-good X j e good legal.0) legal.2 made.1 a)
    (λ a. run-agrees X (next X j e) k h (next-good X j e good legal.0) legal.2 made.1 a) where
      choose : (b : Bool) → (e.by == 0) ≡ b
          → (Agree (snapshot_after X j e.act) (snapshot_after X k e.act) → Agree (run X (next X j e) h).now (run X (next X k e) (made_by 0 h)).now)
          → (Agree (snapshot_after X j e.act) k.now → Agree (run X (next X j e) h).now (run X k (made_by 0 h)).now)
          → Agree (run X (next X j e) h).now (run X k (cond b (e ∷ made_by 0 h) (made_by 0 h))).now
      choose true t both one = both (step-agrees X j k good e.act legal.0 agree)
      choose false t both one = one (other-agrees X j k.now e.by e.act good legal.0 made.0 t agree)

agreed : (X : Frame) (h : List Entry) → IsLegal X h → AreMadeByTheirCallers h → Agree (journal X h).now (journal X (made_by 0 h)).now
agreed X h legal made = run-agrees X (start X) (start X) h (start-good X legal.opening) legal.in_turn made (record { graph = refl; counts = refl; long = refl; sources = λ x e. refl })

pub feed-graph : (X : Frame) (h : List Entry) → IsLegal X h → AreMadeByTheirCallers h → graph X h ≡ graph X (made_by 0 h)
feed-graph X h legal made = (agreed X h legal made).graph

pub feed-counts : (X : Frame) (h : List Entry) → IsLegal X h → AreMadeByTheirCallers h → counts X h ≡ counts X (made_by 0 h)
feed-counts X h legal made = (agreed X h legal made).counts

pub feed-sources : (X : Frame) (h : List Entry) → IsLegal X h → AreMadeByTheirCallers h → (x : ℕ) → IsTrue (is_source (kind_at (graph X h) x)) → val X h x ≡ val X (made_by 0 h) x
feed-sources X h legal made x source = (agreed X h legal made).sources x source

pub ruleset feeds = (callers-words, feed-graph, feed-counts, feed-sources)
