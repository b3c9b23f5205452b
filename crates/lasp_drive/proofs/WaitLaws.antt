-- Laws of the reads that wait at the nodes of a run.
use Rattle.std.proofs.Common.{refl, sym, ap, subst, ◌∙◌, arith}
use Rattle.std.specs.Prelude.{◌≡◌, ◌≢◌, ℕ, ◌+◌, ◌-◌, ◌^◌, ◌<◌, ◌==◌, Bool, true, false, not, if◌then◌else◌, List, [], ◌∷◌, ◌++◌, map, filter, slice_get, slice_set, Option, Some, None, IfSome}
use Rattle.std.specs.List.{AllByRecursion}
use Rattle.std.specs.Option.{option_map}
use Rattle.std.proofs.lemmas.Bool.{eq-eqb, ne_eqb}
use Rattle.model_states.specs.Content.{Content}
use Rattle.model_states.specs.Threshold.{Threshold, meets}
use Rattle.model_graph.specs.Evaluation.{content_at}
use Rattle.model_runs.proofs.EachLaws.{each-append, each-weaker}
use Rattle.model_core.specs.Core.{Read}
use Rattle.lasp_drive.specs.Node.{NodeView, HaveNoReads, Grew, LearnsAnd}
use Rattle.lasp_drive.specs.Reads.{Reads, no_reads, opened_more, next_read, IsNextRead, looks, unmet, releases, Grows, opens_next, looks_once}
use Rattle.lasp_drive.specs.Waiting.{opened_at, IsWaiting, WaitsAt, AreWaiting, counted_on}
use Rattle.lasp_drive.specs.declared.driver.OpenRead.{OpenRead}
use Rattle.lasp_drive.proofs.NodeLaws.{at-set}

-- ---- reads that are told

-- what follows of all that is told
pub told-same : {A : Type 0} (P Q : A → Type 0) (o : Option A) → ((s : A) → P s → Q s) → IfSome o P → IfSome o Q
told-same P Q None each told = tt
told-same P Q (Some s) each told = each s told

pub told-both : {A : Type 0} (P Q : A → Type 0) (o : Option A) → IfSome o P → IfSome o Q → IfSome o (λ s. P s × Q s)
told-both P Q None first second = tt
told-both P Q (Some s) first second = (first, second)

-- what follows of what became of it
pub told-map : {A B : Type 0} (P : A → Type 0) (Q : B → Type 0) (old : Option A) (new : Option B) (f : A → B) → new ≡ option_map f old → ((s : A) → P s → Q (f s)) → IfSome old P → IfSome new Q
told-map {A} {B} P Q old new f is each told = subst (λ (o : Option B). IfSome o Q) (sym is) (here old told) where
  here : (o : Option A) → IfSome o P → IfSome (option_map f o) Q
  here None h = tt
  here (Some s) h = each s h

-- ---- thresholds that aren't met

-- what wasn't met later wasn't met before
pub unmet-again : (s t : List Content) → Grows s t → (rs : List Read) → unmet t (unmet s rs) ≡ unmet t rs
unmet-again s t grows [] = refl
unmet-again s t grows (r ∷ rs) = here (meets r.threshold (content_at s r.var)) refl (unmet-again s t grows rs) where
  here : (met : Bool) → meets r.threshold (content_at s r.var) ≡ met → unmet t (unmet s rs) ≡ unmet t rs → unmet t (if not met then r ∷ unmet s rs else unmet s rs) ≡ (if not (meets r.threshold (content_at t r.var)) then r ∷ unmet t rs else unmet t rs)
  here false e rest = ap (λ (more : List Read). if not (meets r.threshold (content_at t r.var)) then r ∷ more else more) rest
  here true e rest = rest ∙ sym (ap (λ (b : Bool). if not b then r ∷ unmet t rs else unmet t rs) (grows r.var r.threshold e))

-- one read more
unmet-more : (s : List Content) (rs : List Read) (r : Read) → unmet s (rs ++ r ∷ []) ≡ (if meets r.threshold (content_at s r.var) then unmet s rs else unmet s rs ++ r ∷ [])
unmet-more s [] r = here (meets r.threshold (content_at s r.var)) where
  here : (met : Bool) → (if not met then r ∷ [] else []) ≡ (if met then [] else r ∷ [])
  here true = refl
  here false = refl
unmet-more s (q ∷ rs) r = ap (λ (more : List Read). if not (meets q.threshold (content_at s q.var)) then q ∷ more else more) (unmet-more s rs r) ∙ here (meets q.threshold (content_at s q.var)) (meets r.threshold (content_at s r.var)) where
  here : (first met : Bool) → (if not first then q ∷ (if met then unmet s rs else unmet s rs ++ r ∷ []) else (if met then unmet s rs else unmet s rs ++ r ∷ []))
      ≡ (if met then (if not first then q ∷ unmet s rs else unmet s rs) else (if not first then q ∷ unmet s rs else unmet s rs) ++ r ∷ [])
  here true true = refl
  here true false = refl
  here false true = refl
  here false false = refl

-- reads from before a number don't have it
others-stay : (s : List Content) (k : ℕ) (rs : List Read) → AllByRecursion (λ r. r.number < k) rs → filter (λ r. not (r.number == k)) (unmet s rs) ≡ unmet s rs
others-stay s k [] before = refl
others-stay s k (r ∷ rs) before = here (meets r.threshold (content_at s r.var)) (others-stay s k rs before.1) where
  here : (met : Bool) → filter (λ r. not (r.number == k)) (unmet s rs) ≡ unmet s rs → filter (λ r. not (r.number == k)) (if not met then r ∷ unmet s rs else unmet s rs) ≡ (if not met then r ∷ unmet s rs else unmet s rs)
  here true rest = rest
  here false rest =
      ap (λ (b : Bool). if not b then r ∷ filter (λ r. not (r.number == k)) (unmet s rs) else filter (λ r. not (r.number == k)) (unmet s rs)) (ne_eqb r.number k (λ same. omega (arith, same, before.0)))
      ∙ ap (λ (more : List Read). r ∷ more) rest

-- ---- the reads of a node after a call

-- each variable grew, and the reads that came to be met wait no more
released-waiting : (c p : ℕ) (opened : List (OpenRead Read)) (shown now : List Content) (s : Reads) → Grows shown now → IsWaiting c p opened shown s → IsWaiting c p opened now (releases now s)
released-waiting c p opened shown now s grows was = record {
  waiting = ap (unmet now) was.waiting ∙ unmet-again shown now grows (opened_at p opened);
  before = was.before;
  counted = was.counted;
}

-- the count of reads after one more was opened
pub one-more : (k c : ℕ) → k < c → c < 2 ^ 64 - 1 → opened_more k ≡ k + 1
one-more k c low few = omega (arith, low, few)

-- a read was opened and closed again
looks-waiting : (c p : ℕ) (opened : List (OpenRead Read)) (shown : List Content) (s : Reads) → c < 2 ^ 64 - 1 → IsWaiting c p opened shown s → IsWaiting (c + 1) p opened shown (looks s)
looks-waiting c p opened shown s few was =
    let rs = opened_at p opened in
    let count : opened_more s.opened ≡ s.opened + 1 = one-more s.opened c was.counted few in
    record {
      waiting = ap (filter (λ r. not (r.number == s.opened))) was.waiting ∙ others-stay shown s.opened rs was.before;
      before = each-weaker (λ r. r.number < s.opened) (λ r. r.number < opened_more s.opened) (λ r low. omega (arith, low, count)) rs was.before;
      counted = omega (arith, count, was.counted);
    }

-- what is opened at a node is among the reads there
opened-there : (p : ℕ) (opened : List (OpenRead Read)) (r : Read) → opened_at p (opened ++ record { node = p; read = r } ∷ []) ≡ opened_at p opened ++ r ∷ []
opened-there p [] r = ap (λ (b : Bool). map (λ (o : OpenRead Read). o.read) (if b then record { node = p; read = r } ∷ [] else [])) (eq-eqb p p refl)
opened-there p (o ∷ opened) r = here (o.node == p) (opened-there p opened r) where
  here : (b : Bool) → opened_at p (opened ++ record { node = p; read = r } ∷ []) ≡ opened_at p opened ++ r ∷ [] → map (λ (o : OpenRead Read). o.read) (if b then o ∷ filter (λ (o : OpenRead Read). o.node == p) (opened ++ record { node = p; read = r } ∷ []) else filter (λ (o : OpenRead Read). o.node == p) (opened ++ record { node = p; read = r } ∷ []))
      ≡ map (λ (o : OpenRead Read). o.read) (if b then o ∷ filter (λ (o : OpenRead Read). o.node == p) opened else filter (λ (o : OpenRead Read). o.node == p) opened) ++ r ∷ []
  here true rest = ap (λ (more : List Read). o.read ∷ more) rest
  here false rest = rest

-- and not among those elsewhere
opened-elsewhere : (p q : ℕ) (opened : List (OpenRead Read)) (r : Read) → q ≢ p → opened_at q (opened ++ record { node = p; read = r } ∷ []) ≡ opened_at q opened
opened-elsewhere p q [] r apart = ap (λ (b : Bool). map (λ (o : OpenRead Read). o.read) (if b then record { node = p; read = r } ∷ [] else [])) (ne_eqb p q (λ h. apart (sym h)))
opened-elsewhere p q (o ∷ opened) r apart = here (o.node == q) (opened-elsewhere p q opened r apart) where
  here : (b : Bool) → opened_at q (opened ++ record { node = p; read = r } ∷ []) ≡ opened_at q opened → map (λ (o : OpenRead Read). o.read) (if b then o ∷ filter (λ (o : OpenRead Read). o.node == q) (opened ++ record { node = p; read = r } ∷ []) else filter (λ (o : OpenRead Read). o.node == q) (opened ++ record { node = p; read = r } ∷ []))
      ≡ map (λ (o : OpenRead Read). o.read) (if b then o ∷ filter (λ (o : OpenRead Read). o.node == q) opened else filter (λ (o : OpenRead Read). o.node == q) opened)
  here true rest = ap (λ (more : List Read). o.read ∷ more) rest
  here false rest = rest

-- a read was opened
opens-waiting : (c p x : ℕ) (threshold : Threshold) (opened : List (OpenRead Read)) (shown : List Content) (s : Reads) (r : Read) → c < 2 ^ 64 - 1 → r ≡ next_read s x threshold → IsWaiting c p opened shown s
    → IsWaiting (c + 1) p (opened ++ record { node = p; read = r } ∷ []) shown (opens_next x threshold shown s)
opens-waiting c p x threshold opened shown s r few here was =
    let rs = opened_at p opened in
    let last = next_read s x threshold in
    let all : opened_at p (opened ++ record { node = p; read = r } ∷ []) ≡ rs ++ last ∷ [] = opened-there p opened r ∙ ap (λ (q : Read). rs ++ q ∷ []) here in
    let count : opened_more s.opened ≡ s.opened + 1 = one-more s.opened c was.counted few in
    record {
      waiting = ap (λ (w : List Read). if meets threshold (content_at shown x) then w else w ++ last ∷ []) was.waiting ∙ sym (unmet-more shown rs last) ∙ ap (unmet shown) (sym all);
      before = subst (AllByRecursion (λ r. r.number < opened_more s.opened)) (sym all)
          (each-append (λ r. r.number < opened_more s.opened) rs (last ∷ []) (each-weaker (λ r. r.number < s.opened) (λ r. r.number < opened_more s.opened) (λ r low. omega (arith, low, count)) rs was.before) (omega (arith, count), tt));
      counted = omega (arith, count, was.counted);
    }

-- ---- a node after a call

released-still : (c p : ℕ) (opened : List (OpenRead Read)) (n new : NodeView) → Grows n.shown new.shown → new.reads ≡ option_map (releases new.shown) n.reads → WaitsAt c p opened n → WaitsAt c p opened new
released-still c p opened n new more released was =
    told-map (IsWaiting c p opened n.shown) (IsWaiting c p opened new.shown) n.reads new.reads (releases new.shown) released (λ s waits. released-waiting c p opened n.shown new.shown s more waits) was

looked-waiting : (c p : ℕ) (opened : List (OpenRead Read)) (n new : NodeView) → c < 2 ^ 64 - 1 → LearnsAnd looks_once n new → WaitsAt c p opened n → WaitsAt (c + 1) p opened new
looked-waiting c p opened n new few learned was =
    told-map (IsWaiting c p opened n.shown) (IsWaiting (c + 1) p opened new.shown) n.reads new.reads (λ s. looks (releases new.shown s)) learned.reads
    (λ s waits. looks-waiting c p opened new.shown (releases new.shown s) few (released-waiting c p opened n.shown new.shown s learned.learns.more waits)) was

opened-waiting : (c p x : ℕ) (threshold : Threshold) (opened : List (OpenRead Read)) (n new : NodeView) (r : Read) → c < 2 ^ 64 - 1 → IsNextRead n.reads x threshold r → LearnsAnd (opens_next x threshold) n new → WaitsAt c p opened n
    → WaitsAt (c + 1) p (opened ++ record { node = p; read = r } ∷ []) new
opened-waiting c p x threshold opened n new r few next learned was =
    told-map (λ (s : Reads). (r.number ≡ s.opened) × IsWaiting c p opened n.shown s) (IsWaiting (c + 1) p (opened ++ record { node = p; read = r } ∷ []) new.shown) n.reads new.reads (λ s. opens_next x threshold new.shown (releases new.shown s)) learned.reads
    (λ s both. opens-waiting c p x threshold opened new.shown (releases new.shown s) r few (λ i. record { number = both.0 i; var = next.var i; threshold = next.waits_for i }) (released-waiting c p opened n.shown new.shown s learned.learns.more both.1))
    (told-both (λ (s : Reads). r.number ≡ s.opened) (IsWaiting c p opened n.shown) n.reads next.number was)

-- a read was opened elsewhere
waiting-elsewhere : (c p q : ℕ) (opened : List (OpenRead Read)) (n : NodeView) (r : Read) → q ≢ p → WaitsAt c q opened n → WaitsAt (c + 1) q (opened ++ record { node = p; read = r } ∷ []) n
waiting-elsewhere c p q opened n r apart was =
    told-same (IsWaiting c q opened n.shown) (IsWaiting (c + 1) q (opened ++ record { node = p; read = r } ∷ []) n.shown) n.reads (λ s waits. record {
      waiting = waits.waiting ∙ ap (unmet n.shown) (sym (opened-elsewhere p q opened r apart));
      before = subst (AllByRecursion (λ r. r.number < s.opened)) (sym (opened-elsewhere p q opened r apart)) waits.before;
      counted = omega (arith, waits.counted);
    }) was

waiting-later : (c p : ℕ) (opened : List (OpenRead Read)) (n : NodeView) → WaitsAt c p opened n → WaitsAt (c + 1) p opened n
waiting-later c p opened n was =
    told-same (IsWaiting c p opened n.shown) (IsWaiting (c + 1) p opened n.shown) n.reads (λ s waits. record { waiting = waits.waiting; before = waits.before; counted = omega (arith, waits.counted) }) was

-- ---- all nodes after a call of one

pub all-later : (c : ℕ) (nodes : List NodeView) (opened : List (OpenRead Read)) → AreWaiting c nodes opened → AreWaiting (c + 1) nodes opened
all-later c nodes opened all q n at = waiting-later c q opened n (all q n at)

pub all-released : (c p : ℕ) (nodes : List NodeView) (opened : List (OpenRead Read)) (n new : NodeView) → slice_get nodes p ≡ Some n → Grows n.shown new.shown → new.reads ≡ option_map (releases new.shown) n.reads → AreWaiting c nodes opened
    → AreWaiting c (slice_set nodes p new) opened
all-released c p nodes opened n new at more released all =
    at-set (λ q m. WaitsAt c q opened m) nodes p new (λ q m other there. all q m there) (released-still c p opened n new more released (all p n at))

pub all-called : (c p : ℕ) (nodes : List NodeView) (opened : List (OpenRead Read)) (n new : NodeView) → slice_get nodes p ≡ Some n → Grew n new → AreWaiting c nodes opened
    → AreWaiting c (slice_set nodes p new) opened
all-called c p nodes opened n new at grew all = all-released c p nodes opened n new at grew.more grew.released all

pub all-looked : (c p : ℕ) (nodes : List NodeView) (opened : List (OpenRead Read)) (n new : NodeView) → c < 2 ^ 64 - 1 → slice_get nodes p ≡ Some n → LearnsAnd looks_once n new → AreWaiting c nodes opened
    → AreWaiting (c + 1) (slice_set nodes p new) opened
all-looked c p nodes opened n new few at learned all =
    at-set (λ q m. WaitsAt (c + 1) q opened m) nodes p new (λ q m other there. waiting-later c q opened m (all q m there)) (looked-waiting c p opened n new few learned (all p n at))

pub all-opened : (c p x : ℕ) (threshold : Threshold) (nodes : List NodeView) (opened : List (OpenRead Read)) (n new : NodeView) (r : Read) → c < 2 ^ 64 - 1 → slice_get nodes p ≡ Some n → IsNextRead n.reads x threshold r → LearnsAnd (opens_next x threshold) n new
    → AreWaiting c nodes opened → AreWaiting (c + 1) (slice_set nodes p new) (opened ++ record { node = p; read = r } ∷ [])
all-opened c p x threshold nodes opened n new r few at next learned all =
    at-set (λ q m. WaitsAt (c + 1) q (opened ++ record { node = p; read = r } ∷ []) m) nodes p new (λ q m other there. waiting-elsewhere c p q opened m r other (all q m there))
    (opened-waiting c p x threshold opened n new r few next learned (all p n at))

-- nodes to which nothing has happened
pub all-fresh : (nodes : List NodeView) → HaveNoReads nodes → AreWaiting 1 nodes []
all-fresh nodes fresh q n at =
    told-same (λ (s : Reads). s ≡ no_reads) (IsWaiting 1 q [] n.shown) n.reads (λ s none. record { waiting = ap (λ (s : Reads). s.waiting) none; before = tt; counted = omega (arith, ap (λ (s : Reads). s.opened) none) }) (fresh q n at)

-- ---- how many reads were opened

-- none was
pub opened-kept : (shown : List Content) (old new : Option Reads) → new ≡ option_map (releases shown) old → option_map (λ (s : Reads). s.opened) new ≡ option_map (λ (s : Reads). s.opened) old
opened-kept shown old new is = ap (option_map (λ (s : Reads). s.opened)) is ∙ here old where
  here : (o : Option Reads) → option_map (λ (s : Reads). s.opened) (option_map (releases shown) o) ≡ option_map (λ (s : Reads). s.opened) o
  here None = refl
  here (Some s) = refl

-- one was, among fewer than a command's number
pub opened-one : (c p : ℕ) (opened : List (OpenRead Read)) (n new : NodeView) (change : List Content → Reads → Reads) → c < 2 ^ 64 - 1 → ((s : Reads) → (change new.shown s).opened ≡ opened_more s.opened) → LearnsAnd change n new → WaitsAt c p opened n
    → option_map (λ (s : Reads). s.opened) new.reads ≡ counted_on 1 (option_map (λ (s : Reads). s.opened) n.reads)
opened-one c p opened n new change few counts learned was = ap (option_map (λ (s : Reads). s.opened)) learned.reads ∙ here n.reads was where
  here : (o : Option Reads) → IfSome o (IsWaiting c p opened n.shown) → option_map (λ (s : Reads). s.opened) (option_map (λ s. change new.shown (releases new.shown s)) o) ≡ counted_on 1 (option_map (λ (s : Reads). s.opened) o)
  here None waits = refl
  here (Some s) waits = ap (λ (k : ℕ). Some k) (counts (releases new.shown s) ∙ one-more s.opened c waits.counted few)
