-- Laws of the calls of a run's nodes, and of how many reads they opened.
use Rattle.std.proofs.Common.{zero, suc, ◌⊎◌, inl, inr, refl, sym, ap, subst, ◌∙◌, arith, take, drop}
use Rattle.std.specs.Prelude.{◌≡◌, ◌≢◌, ℕ, ◌+◌, ◌<◌, ◌==◌, Bool, if◌then◌else◌, List, [], ◌∷◌, ◌++◌, map, length, replicate, slice_get, slice_set, slice_index_or, Option, Some, None, IfSome, Result, Ok, Err}
use Rattle.std.specs.Option.{option_map}
use Rattle.std.proofs.lemmas.List.{length-map}
use Rattle.std.proofs.lemmas.Bool.{eq-eqb, ne_eqb}
use Rattle.std.proofs.lemmas.Option.{slice_get_within}
use Rattle.model_states.specs.Update.{Op}
use Rattle.model_world.specs.World as world
use Rattle.model_world.specs.World.{Run, Act, act, each, sent_number}
use Rattle.model_world.specs.declared.stop.Stop.{Stop}
use Rattle.model_world.proofs.FollowLaws.{bound}
use Rattle.model_journal.specs.Entry as model
use Rattle.model_journal.specs.Entry.{Entry}
use Rattle.model_runs.specs.Calls.{fed, call_of, when_done, calls_of_acts}
use Rattle.model_runs.proofs.MatchLaws.{append-nothing, append-again}
use Rattle.lasp_drive.specs.Node.{NodeView, HaveNoReads}
use Rattle.lasp_drive.specs.Nodes.{calls_of}
use Rattle.lasp_drive.specs.Calls.{calls_at, GoOnByCalls, GotFirst, GoesOnWithin}
use Rattle.lasp_drive.specs.Reads.{Reads, no_reads}
use Rattle.lasp_drive.specs.Waiting.{opened_count, opened_counts, opened_by, counted_on, GoOnByReads}
use Rattle.lasp_drive.proofs.NodeLaws.{mapped-or}

-- ---- one call of a node

-- no node was called
pub calls-stay : (old new : List NodeView) → calls_of new ≡ calls_of old → GoOnByCalls old new (λ q. [])
calls-stay old new same q low = ap (λ (hs : List (List Entry)). slice_index_or hs q []) same ∙ sym (append-nothing (calls_at old q))

-- one node was called
pub calls-set : (nodes : List NodeView) (p : ℕ) (n new : NodeView) (more : ℕ → List Entry) → slice_get nodes p ≡ Some n → new.calls ≡ n.calls ++ more p → ((q : ℕ) → q ≢ p → more q ≡ []) → GoOnByCalls nodes (slice_set nodes p new) more
calls-set [] p n new more at is others q low = absurd cc
calls-set (m ∷ nodes) zero n new more at is others zero low = is ∙ ap (λ (k : NodeView). k.calls ++ more zero) (sym (let same : m ≡ n = cc in same))
calls-set (m ∷ nodes) zero n new more at is others (suc q) low =
    sym (append-nothing (calls_at nodes q)) ∙ ap (λ (h : List Entry). calls_at nodes q ++ h) (sym (others (suc q) (λ h. omega (arith, h))))
calls-set (m ∷ nodes) (suc p) n new more at is others zero low =
    sym (append-nothing m.calls) ∙ ap (λ (h : List Entry). m.calls ++ h) (sym (others zero (λ h. omega (arith, h))))
calls-set (m ∷ nodes) (suc p) n new more at is others (suc q) low =
    calls-set nodes p n new (λ k. more (suc k)) at is (λ k apart. others (suc k) (λ h. apart (omega (arith, h)))) q (omega (arith, low))

abbrev where_it_is : Entry → Bool → List Entry
where_it_is e here = if here then e ∷ [] else []

pub updated-there : (run : Run) (p x : ℕ) (op : Op) → call_of run p (world.Update p x op) ≡ fed (model.Update x op) ∷ []
updated-there run p x op = ap (where_it_is (fed (model.Update x op))) (eq-eqb p p refl)

pub updated-elsewhere : (run : Run) (p x : ℕ) (op : Op) (q : ℕ) → q ≢ p → call_of run q (world.Update p x op) ≡ []
updated-elsewhere run p x op q apart = ap (where_it_is (fed (model.Update x op))) (ne_eqb p q (λ h. apart (sym h)))

pub taken-there : (run : Run) (p i : ℕ) → call_of run p (world.Take p i) ≡ fed (model.Deliver i (sent_number run.sent i)) ∷ []
taken-there run p i = ap (where_it_is (fed (model.Deliver i (sent_number run.sent i)))) (eq-eqb p p refl)

pub taken-elsewhere : (run : Run) (p i q : ℕ) → q ≢ p → call_of run q (world.Take p i) ≡ []
taken-elsewhere run p i q apart = ap (where_it_is (fed (model.Deliver i (sent_number run.sent i)))) (ne_eqb p q (λ h. apart (sym h)))

-- every node was called alike
pub calls-each : (old new : List NodeView) (more : List Entry) → calls_of new ≡ map (λ h. h ++ more) (calls_of old) → GoOnByCalls old new (λ q. more)
calls-each old new more same q low = ap (λ (hs : List (List Entry)). slice_index_or hs q []) same ∙ here old q low where
  here : (old : List NodeView) (q : ℕ) → q < length old → slice_index_or (map (λ h. h ++ more) (calls_of old)) q [] ≡ slice_index_or (calls_of old) q [] ++ more
  here [] q low = absurd (omega (arith, low))
  here (m ∷ old) zero low = refl
  here (m ∷ old) (suc q) low = here old q (omega (arith, low))

-- ---- acts one after the other

-- the calls of acts and of those behind them
pub calls-append : (c : ℕ) (run next : Run) (q : ℕ) (xs ys : List Act) → each c run xs ≡ Ok next → calls_of_acts c run q (xs ++ ys) ≡ calls_of_acts c run q xs ++ calls_of_acts c next q ys
calls-append c run next q [] ys done = ap (λ (r : Run). calls_of_acts c r q ys) (let same : run ≡ next = cc in same)
calls-append c run next q (a ∷ xs) ys done =
    let both = bound (act c run a) (λ n. each c n xs) next done in
    ap (λ (r : Result Run Stop). call_of run q a ++ when_done r (λ n. calls_of_acts c n q (xs ++ ys))) both.1
    ∙ ap (λ (h : List Entry). call_of run q a ++ h) (calls-append c both.0 next q xs ys both.2)
    ∙ sym (append-again (call_of run q a) (calls_of_acts c both.0 q xs) (calls_of_acts c next q ys))
    ∙ ap (λ (r : Result Run Stop). (call_of run q a ++ when_done r (λ n. calls_of_acts c n q xs)) ++ calls_of_acts c next q ys) (sym both.1)

-- some acts, and then others
pub calls-then : (old mid new : List NodeView) (c : ℕ) (run next : Run) (xs ys : List Act) → length mid ≡ length old → each c run xs ≡ Ok next
    → GoOnByCalls old mid (λ q. calls_of_acts c run q xs) → GoOnByCalls mid new (λ q. calls_of_acts c next q ys) → GoOnByCalls old new (λ q. calls_of_acts c run q (xs ++ ys))
calls-then old mid new c run next xs ys size done first second q low =
    second q (omega (arith, low, size))
    ∙ ap (λ (h : List Entry). h ++ calls_of_acts c next q ys) (first q low)
    ∙ append-again (calls_at old q) (calls_of_acts c run q xs) (calls_of_acts c next q ys)
    ∙ ap (λ (h : List Entry). calls_at old q ++ h) (sym (calls-append c run next q xs ys done))

-- an act alone
pub calls-one : (old new : List NodeView) (c : ℕ) (run next : Run) (a : Act) → act c run a ≡ Ok next → GoOnByCalls old new (λ q. call_of run q a) → GoOnByCalls old new (λ q. calls_of_acts c run q (a ∷ []))
calls-one old new c run next a done went q low =
    went q low ∙ ap (λ (h : List Entry). calls_at old q ++ h)
    (sym (append-nothing (call_of run q a)) ∙ ap (λ (r : Result Run Stop). call_of run q a ++ when_done r (λ n. calls_of_acts c n q [])) (sym done))

-- ---- the first of some calls

-- none of them
pub none-of : (h more : List Entry) → GotFirst h h more
none-of h more = record { rest = more; part = record { first = []; is = sym (append-nothing h); part = refl } }

pub within-none : (old new : List NodeView) (more : ℕ → List Entry) → calls_of new ≡ calls_of old → GoesOnWithin old new more
within-none old new more same p low = subst (λ (h : List Entry). GotFirst (calls_at old p) h (more p)) (sym (ap (λ (hs : List (List Entry)). slice_index_or hs p []) same)) (none-of (calls_at old p) (more p))

-- the nodes below a number were called alike, and no other
pub within-each : (old new : List NodeView) (p : ℕ) (e : Entry) → calls_of new ≡ map (λ h. h ++ e ∷ []) (take p (calls_of old)) ++ drop p (calls_of old) → GoesOnWithin old new (λ q. e ∷ [])
within-each old new p e same q low =
    subst (λ (h : List Entry). GotFirst (calls_at old q) h (e ∷ [])) (sym (ap (λ (hs : List (List Entry)). slice_index_or hs q []) same)) (here (calls_of old) p q (omega (arith, low, length-map old (λ (n : NodeView). n.calls))))
  where
    here : (hs : List (List Entry)) (p q : ℕ) → q < length hs → GotFirst (slice_index_or hs q []) (slice_index_or (map (λ h. h ++ e ∷ []) (take p hs) ++ drop p hs) q []) (e ∷ [])
    here [] p q low = absurd (omega (arith, low))
    here (h ∷ hs) zero q low = none-of (slice_index_or (h ∷ hs) q []) (e ∷ [])
    here (h ∷ hs) (suc p) zero low = record { rest = []; part = record { first = e ∷ []; is = refl; part = refl } }
    here (h ∷ hs) (suc p) (suc q) low = here hs p q (omega (arith, low))

-- the calls of acts are the first of those of more acts
pub record HasMore (some all : List Entry) : Type 0 where
  pub tail : List Entry
  pub is : all ≡ some ++ tail

pub calls-more : (c : ℕ) (run : Run) (q : ℕ) (xs ys : List Act) → HasMore (calls_of_acts c run q xs) (calls_of_acts c run q (xs ++ ys))
calls-more c run q [] ys = record { tail = calls_of_acts c run q ys; is = refl }
calls-more c run q (a ∷ xs) ys = behind (act c run a) (λ n. calls-more c n q xs ys) where
  behind : (r : Result Run Stop) → ((n : Run) → HasMore (calls_of_acts c n q xs) (calls_of_acts c n q (xs ++ ys)))
      → HasMore (call_of run q a ++ when_done r (λ n. calls_of_acts c n q xs)) (call_of run q a ++ when_done r (λ n. calls_of_acts c n q (xs ++ ys)))
  behind (Ok n) more = record {
    tail = (more n).tail;
    is = ap (λ (h : List Entry). call_of run q a ++ h) (more n).is ∙ sym (append-again (call_of run q a) (calls_of_acts c n q xs) (more n).tail);
  }
  behind (Err stop) more = record { tail = []; is = sym (append-nothing (call_of run q a ++ [])) }

-- the first of some calls are the first of more
pub part-before : (old new some all : List Entry) → HasMore some all → GotFirst old new some → GotFirst old new all
part-before old new some all more got = record {
  rest = got.rest ++ more.tail;
  part = record {
    first = got.part.first;
    is = got.part.is;
    part = sym (append-again got.part.first got.rest more.tail) ∙ ap (λ (h : List Entry). h ++ more.tail) got.part.part ∙ sym more.is;
  };
}

-- some calls, and the first of those behind them
pub part-behind : (old mid new some more all : List Entry) → mid ≡ old ++ some → all ≡ some ++ more → GotFirst mid new more → GotFirst old new all
part-behind old mid new some more all first both got = record {
  rest = got.rest;
  part = record {
    first = some ++ got.part.first;
    is = got.part.is ∙ ap (λ (h : List Entry). h ++ got.part.first) first ∙ append-again old some got.part.first;
    part = append-again some got.part.first got.rest ∙ ap (λ (h : List Entry). some ++ h) got.part.part ∙ sym both;
  };
}

-- ---- how many reads were opened

-- none more
pub counted-none : (o : Option ℕ) → counted_on 0 o ≡ o
counted-none None = refl
counted-none (Some n) = ap (λ (k : ℕ). Some k) (let none : n + 0 ≡ n = omega arith in none)

-- some more, and then others
pub counted-twice : (j k : ℕ) (o : Option ℕ) → counted_on k (counted_on j o) ≡ counted_on (j + k) o
counted-twice j k None = refl
counted-twice j k (Some n) = ap (λ (m : ℕ). Some m) (let both : (n + j) + k ≡ n + (j + k) = omega arith in both)

-- none was
pub counts-stay : (old new : List NodeView) → opened_counts new ≡ opened_counts old → GoOnByReads old new (λ q. 0)
counts-stay old new same q low = ap (λ (cs : List (Option ℕ)). slice_index_or cs q None) same ∙ sym (counted-none (opened_by old q))

count-here : (nodes : List NodeView) (p : ℕ) (n : NodeView) → slice_get nodes p ≡ Some n → opened_by nodes p ≡ opened_count n
count-here nodes p n at = mapped-or opened_count nodes p n None at

same-or-apart : (p q : ℕ) → (p ≡ q) ⊎ (p ≡ q → ⊥)
same-or-apart zero zero = inl refl
same-or-apart zero (suc q) = inr (λ h. omega (arith, h))
same-or-apart (suc p) zero = inr (λ h. omega (arith, h))
same-or-apart (suc p) (suc q) = next (same-or-apart p q) where
  next : (p ≡ q) ⊎ (p ≡ q → ⊥) → (suc p ≡ suc q) ⊎ (suc p ≡ suc q → ⊥)
  next (inl same) = inl (ap (λ (k : ℕ). suc k) same)
  next (inr apart) = inr (λ h. apart (omega (arith, h)))

count-there : (nodes : List NodeView) (p : ℕ) (new : NodeView) → p < length nodes → opened_by (slice_set nodes p new) p ≡ opened_count new
count-there [] p new within = absurd (omega (arith, within))
count-there (m ∷ nodes) zero new within = refl
count-there (m ∷ nodes) (suc p) new within = count-there nodes p new (omega (arith, within))

count-elsewhere : (nodes : List NodeView) (p : ℕ) (new : NodeView) (q : ℕ) → p ≢ q → opened_by (slice_set nodes p new) q ≡ opened_by nodes q
count-elsewhere [] p new q apart = refl
count-elsewhere (m ∷ nodes) zero new zero apart = absurd (apart refl)
count-elsewhere (m ∷ nodes) zero new (suc q) apart = refl
count-elsewhere (m ∷ nodes) (suc p) new zero apart = refl
count-elsewhere (m ∷ nodes) (suc p) new (suc q) apart = count-elsewhere nodes p new q (λ h. apart (ap (λ (k : ℕ). suc k) h))

-- one node opened one
pub one-opened : (nodes : List NodeView) (p : ℕ) (n new : NodeView) → slice_get nodes p ≡ Some n → opened_count new ≡ counted_on 1 (opened_count n) → GoOnByReads nodes (slice_set nodes p new) (λ q. if p == q then 1 else 0)
one-opened nodes p n new at more q low = choose (same-or-apart p q) where
  choose : (p ≡ q) ⊎ (p ≡ q → ⊥) → opened_by (slice_set nodes p new) q ≡ counted_on (if p == q then 1 else 0) (opened_by nodes q)
  choose (inl same) =
      ap (λ (k : ℕ). opened_by (slice_set nodes p new) k) (sym same) ∙ count-there nodes p new (slice_get_within nodes p n at) ∙ more
      ∙ ap (counted_on 1) (sym (count-here nodes p n at)) ∙ ap (λ (k : ℕ). counted_on 1 (opened_by nodes k)) same ∙ ap (λ (b : Bool). counted_on (if b then 1 else 0) (opened_by nodes q)) (sym (eq-eqb p q same))
  choose (inr apart) =
      count-elsewhere nodes p new q apart ∙ sym (counted-none (opened_by nodes q)) ∙ ap (λ (b : Bool). counted_on (if b then 1 else 0) (opened_by nodes q)) (sym (ne_eqb p q apart))

-- nodes that had opened none
pub opened-alone : (old new : List NodeView) (many : ℕ) (all : ℕ → ℕ) → HaveNoReads old → length old ≡ many → GoOnByReads old new all → (p : ℕ) → p < many → IfSome (opened_by new p) (λ opened. opened ≡ all p)
opened-alone old new many all fresh size went p low = subst (λ (o : Option ℕ). IfSome o (λ opened. opened ≡ all p)) (sym (went p (omega (arith, low, size)))) (here (all p) old p fresh) where
  first : (more : ℕ) (o : Option Reads) → IfSome o (λ s. s ≡ no_reads) → IfSome (counted_on more (option_map (λ (s : Reads). s.opened) o)) (λ opened. opened ≡ more)
  first more None none = tt
  first more (Some s) none = omega (arith, ap (λ (s : Reads). s.opened) none)

  here : (more : ℕ) (nodes : List NodeView) (p : ℕ) → HaveNoReads nodes → IfSome (counted_on more (opened_by nodes p)) (λ opened. opened ≡ more)
  here more [] p fresh = tt
  here more (m ∷ nodes) zero fresh = first more m.reads (fresh zero m refl)
  here more (m ∷ nodes) (suc p) fresh = here more nodes p (λ q n at. fresh (suc q) n at)

abbrev pub no_calls : List Entry
no_calls = []

-- nodes that had no calls have these alone
pub called-alone : (old new : List NodeView) (many : ℕ) (all : ℕ → List Entry) → calls_of old ≡ replicate many [] → length old ≡ many → GoOnByCalls old new all → (p : ℕ) → p < many → calls_at new p ≡ all p
called-alone old new many all fresh size went p low =
    went p (omega (arith, low, size)) ∙ ap (λ (h : List Entry). h ++ all p) (ap (λ (hs : List (List Entry)). slice_index_or hs p []) fresh ∙ none many p) where
      none : (many p : ℕ) → slice_index_or (replicate many no_calls) p [] ≡ no_calls
      none zero p = refl
      none (suc many) zero = refl
      none (suc many) (suc p) = none many p
