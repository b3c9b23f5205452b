-- Acts one after the other, and acts that were done along a list of nodes.
use Rattle.std.proofs.Common.{zero, suc, refl, sym, ap, subst, ◌∙◌, append_assoc, arith, drop, take}
use Rattle.std.specs.Prelude.{◌≡◌, ℕ, ◌+◌, ◌<◌, ◌≤◌, ◌==◌, not, Bool, true, false, if◌then◌else◌, List, [], ◌∷◌, ◌++◌, map, flat_map, filter, length, Result, Ok, Err, OnOk, slice_get, slice_set, Some}
use Rattle.std.specs.List.{range_with_len}
use Rattle.std.proofs.lemmas.List.{drop_more}
use Rattle.std.proofs.lemmas.Bool.{eq-eqb, ne_eqb}
use Rattle.std.proofs.lemmas.List.FromFn.{length-range_with_len, get_or-range_with_len}
use Rattle.model_graph.specs.Chain.{◌>>=◌}
use Rattle.model_world.specs.Lawful.{Stage}
use Rattle.model_world.specs.World.{Run, Act, Post, Take, act, each, takes, sync_acts}
use Rattle.model_world.specs.declared.stop.Stop.{Stop}
use Rattle.model_runs.specs.Calls.{call_of, calls_of_acts}
use Rattle.model_runs.proofs.MatchLaws.{append-nothing}
use Rattle.model_runs.proofs.SoundLaws.{sound-later}
use Rattle.lasp_drive.specs.Node.{NodeView}
use Rattle.lasp_drive.specs.Nodes.{calls_of}
use Rattle.lasp_drive.specs.Waiting.{opened_by, counted_on, GoOnByReads}
use Rattle.lasp_drive.specs.Calls.{calls_at, GoOnByCalls}
use Rattle.lasp_drive.specs.Driver.{DriverView, run_of, stage_of, Stands}
use Rattle.lasp_drive.specs.Acts.{Halts, staged, all_staged, asks, all_asks, Acted, ActsSeen, StopsWithin}
use Rattle.lasp_drive.specs.declared.halt.Halt.{Halt}
use Rattle.lasp_drive.specs.declared.halt.Halt.TheVariants as halt
use Rattle.lasp_drive.proofs.NodeLaws.{same-set}
use Rattle.lasp_drive.proofs.WaitLaws.{all-later}
use Rattle.lasp_drive.proofs.CallLaws.{counted-none, counted-twice, calls-one, calls-then, calls-append, calls-more, part-before, part-behind, within-none}

-- ---- stops

pub halts-as : {B : Type 0} (r s : Result B Stop) (why : Halt) → r ≡ s → Halts s why → Halts r why
halts-as r s (halt.TooLarge n p x) e h = e ∙ h
halts-as r s (halt.NetworkFull n) e h = e ∙ h
halts-as r s (halt.NotReached n) e h = e ∙ h
halts-as r s halt.Memory e h = tt

-- what a stop of the first leaves is a stop
pub halts-then : {A B : Type 0} (r : Result A Stop) (next : A → Result B Stop) (why : Halt) → Halts r why → Halts (r >>= next) why
halts-then r next (halt.TooLarge n p x) h = ap (λ s. s >>= next) h
halts-then r next (halt.NetworkFull n) h = ap (λ s. s >>= next) h
halts-then r next (halt.NotReached n) h = ap (λ s. s >>= next) h
halts-then r next halt.Memory h = tt

-- ---- a driver before a later command

pub stands-later : (c : ℕ) (d : DriverView) → Stands c d → Stands (c + 1) d
stands-later c d ready = record {
  some = ready.some;
  few = ready.few;
  nodes = ready.nodes;
  limit = ready.limit;
  sound = sound-later (length d.nodes) c (stage_of d) (run_of d) ready.sound;
  known = ready.known;
  waiting = all-later c d.nodes d.reads ready.waiting;
  marked = ready.marked;
  tailed = ready.tailed;
}

pub acts-later : {A : Type 0} (c : ℕ) (d e : DriverView) (all : List Act) (result : Result A Halt) → ActsSeen c c d all result e → ActsSeen c (c + 1) d all result e
acts-later c d e all (Ok done) h = record { ready = stands-later c e h.ready; size = h.size; stage = h.stage; run = h.run; calls = h.calls; opened = h.opened }
acts-later c d e all (Err why) h = h

-- ---- one act

pub acted-one : (c next : ℕ) (d e : DriverView) (a : Act) → Stands next e → length e.nodes ≡ length d.nodes → stage_of e ≡ staged (stage_of d) a → act c (run_of d) a ≡ Ok (run_of e)
    → GoOnByCalls d.nodes e.nodes (λ q. call_of (run_of d) q a) → GoOnByReads d.nodes e.nodes (λ q. asks q a) → Acted c next d (a ∷ []) e
acted-one c next d e a ready size stage done calls opened = record {
  ready = ready;
  size = size;
  stage = stage;
  run = ap (λ (r : Result Run Stop). r >>= (λ n. each c n [])) done;
  calls = calls-one d.nodes e.nodes c (run_of d) (run_of e) a done calls;
  opened = λ q low. opened q low ∙ ap (λ (k : ℕ). counted_on k (opened_by d.nodes q)) (let alone : asks q a ≡ asks q a + 0 = omega arith in alone);
}

pub halts-one : (c : ℕ) (run : Run) (a : Act) (why : Halt) → Halts (act c run a) why → Halts (each c run (a ∷ [])) why
halts-one c run a why h = halts-then (act c run a) (λ n. each c n []) why h

-- ---- a stop within one act

-- the nodes have the calls that they had
pub stops-still : (c : ℕ) (d : DriverView) (a : Act) (why : Halt) (nodes : List NodeView) → calls_of nodes ≡ calls_of d.nodes → Halts (act c (run_of d) a) why → StopsWithin c d (a ∷ []) why nodes
stops-still c d a why nodes same h = record { halts = halts-one c (run_of d) a why h; calls = within-none d.nodes nodes (λ q. calls_of_acts c (run_of d) q (a ∷ [])) same }

-- a node was called in vain
pub stops-at : (c p : ℕ) (d : DriverView) (a : Act) (why : Halt) (n new : NodeView) → slice_get d.nodes p ≡ Some n → new.calls ≡ n.calls → Halts (act c (run_of d) a) why → StopsWithin c d (a ∷ []) why (slice_set d.nodes p new)
stops-at c p d a why n new at same h = stops-still c d a why (slice_set d.nodes p new) (same-set (λ (n : NodeView). n.calls) d.nodes p n new at same) h

-- memory was wanting, and no node was called
pub stops-early : (c : ℕ) (d : DriverView) (all : List Act) → StopsWithin c d all halt.Memory d.nodes
stops-early c d all = record { halts = tt; calls = within-none d.nodes d.nodes (λ q. calls_of_acts c (run_of d) q all) refl }

-- ---- no act, and acts one after the other

pub acted-none : (c : ℕ) (d : DriverView) → Stands c d → Acted c c d [] d
acted-none c d ready = record {
  ready = ready;
  size = refl;
  stage = refl;
  run = refl;
  calls = λ q low. sym (append-nothing _);
  opened = λ q low. sym (counted-none (opened_by d.nodes q));
}

then-assoc : (c : ℕ) (r : Result Run Stop) (xs ys : List Act) → ((n : Run) → each c n (xs ++ ys) ≡ each c n xs >>= (λ m. each c m ys)) → r >>= (λ n. each c n (xs ++ ys)) ≡ (r >>= (λ n. each c n xs)) >>= (λ m. each c m ys)
then-assoc c (Ok n) xs ys h = h n
then-assoc c (Err e) xs ys h = refl

each-append : (c : ℕ) (run : Run) (xs ys : List Act) → each c run (xs ++ ys) ≡ each c run xs >>= (λ m. each c m ys)
each-append c run [] ys = refl
each-append c run (a ∷ xs) ys = then-assoc c (act c run a) xs ys (λ n. each-append c n xs ys)

pub staged-append : (s : Stage) (xs ys : List Act) → all_staged s (xs ++ ys) ≡ all_staged (all_staged s xs) ys
staged-append s [] ys = refl
staged-append s (a ∷ xs) ys = staged-append (staged s a) xs ys

pub asks-append : (q : ℕ) (xs ys : List Act) → all_asks q (xs ++ ys) ≡ all_asks q xs + all_asks q ys
asks-append q [] ys = omega arith
asks-append q (a ∷ xs) ys = omega (arith, asks-append q xs ys)

pub acted-then : (c m next : ℕ) (d e f : DriverView) (xs ys : List Act) → Acted c m d xs e → Acted c next e ys f → Acted c next d (xs ++ ys) f
acted-then c m next d e f xs ys first second = record {
  ready = second.ready;
  size = second.size ∙ first.size;
  stage = second.stage ∙ ap (λ (s : Stage). all_staged s ys) first.stage ∙ sym (staged-append (stage_of d) xs ys);
  run = each-append c (run_of d) xs ys ∙ ap (λ (r : Result Run Stop). r >>= (λ n. each c n ys)) first.run ∙ second.run;
  calls = calls-then d.nodes e.nodes f.nodes c (run_of d) (run_of e) xs ys first.size first.run first.calls second.calls;
  opened = λ q low.
      second.opened q (omega (arith, low, first.size)) ∙ ap (counted_on (all_asks q ys)) (first.opened q low) ∙ counted-twice (all_asks q xs) (all_asks q ys) (opened_by d.nodes q)
      ∙ ap (λ (k : ℕ). counted_on k (opened_by d.nodes q)) (sym (asks-append q xs ys));
}

-- of the acts behind those that were done, the driver stopped at one
halts-behind : (c m : ℕ) (d e : DriverView) (xs ys : List Act) (why : Halt) → Acted c m d xs e → Halts (each c (run_of e) ys) why → Halts (each c (run_of d) (xs ++ ys)) why
halts-behind c m d e xs ys why first h =
    halts-as (each c (run_of d) (xs ++ ys)) (each c (run_of e) ys) why (each-append c (run_of d) xs ys ∙ ap (λ (r : Result Run Stop). r >>= (λ n. each c n ys)) first.run) h

stops-behind : (c m : ℕ) (d e : DriverView) (xs ys : List Act) (why : Halt) (nodes : List NodeView) → Acted c m d xs e → StopsWithin c e ys why nodes → StopsWithin c d (xs ++ ys) why nodes
stops-behind c m d e xs ys why nodes first stop = record {
  halts = halts-behind c m d e xs ys why first stop.halts;
  calls = λ q low.
      part-behind (calls_at d.nodes q) (calls_at e.nodes q) (calls_at nodes q) (calls_of_acts c (run_of d) q xs) (calls_of_acts c (run_of e) q ys) (calls_of_acts c (run_of d) q (xs ++ ys))
      (first.calls q low) (calls-append c (run_of d) (run_of e) q xs ys first.run) (stop.calls q (omega (arith, low, first.size)));
}

-- a stop within some acts is one within more
pub stops-before : (c : ℕ) (d : DriverView) (xs ys : List Act) (why : Halt) (nodes : List NodeView) → StopsWithin c d xs why nodes → StopsWithin c d (xs ++ ys) why nodes
stops-before c d xs ys why nodes stop = record {
  halts = halts-as (each c (run_of d) (xs ++ ys)) (each c (run_of d) xs >>= (λ m. each c m ys)) why (each-append c (run_of d) xs ys) (halts-then (each c (run_of d) xs) (λ m. each c m ys) why stop.halts);
  calls = λ q low. part-before (calls_at d.nodes q) (calls_at nodes q) (calls_of_acts c (run_of d) q xs) (calls_of_acts c (run_of d) q (xs ++ ys)) (calls-more c (run_of d) q xs ys) (stop.calls q low);
}

pub acts-then : {A : Type 0} (c m next : ℕ) (d e f : DriverView) (xs ys : List Act) (result : Result A Halt) → Acted c m d xs e → ActsSeen c next e ys result f → ActsSeen c next d (xs ++ ys) result f
acts-then c m next d e f xs ys (Ok done) first second = acted-then c m next d e f xs ys first second
acts-then c m next d e f xs ys (Err why) first second = stops-behind c m d e xs ys why f.nodes first second

-- ---- acts along a list of nodes

-- the first nodes, the next one, and those behind it
pub next-range : (n k : ℕ) → k < n → drop k (range_with_len 0 n) ≡ k ∷ drop (k + 1) (range_with_len 0 n)
next-range n k within =
    drop_more (range_with_len 0 n) k (0 + k) (omega (arith, within, length-range_with_len 0 n))
    ∙ ap (λ x. x ∷ drop (k + 1) (range_with_len 0 n)) (get_or-range_with_len 0 n k (0 + k) within) ∙ ap (λ x. x ∷ drop (k + 1) (range_with_len 0 n)) (let same : 0 + k ≡ k = omega arith in same)

pub split : {X : Type 0} (xs : List X) (k : ℕ) → xs ≡ take k xs ++ drop k xs
split [] zero = refl
split [] (suc k) = refl
split (x ∷ xs) zero = refl
split {X} (x ∷ xs) (suc k) = ap (λ (ys : List X). x ∷ ys) (split xs k)

pub take-next : {X : Type 0} (xs : List X) (k : ℕ) (x : X) (rest : List X) → drop k xs ≡ x ∷ rest → take (k + 1) xs ≡ take k xs ++ x ∷ []
take-next {X} xs k x rest at = ap (λ (n : ℕ). take n xs) (let next : k + 1 ≡ suc k = omega arith in next) ∙ more xs k at where
  more : (xs : List X) (k : ℕ) → drop k xs ≡ x ∷ rest → take (suc k) xs ≡ take k xs ++ x ∷ []
  more [] zero at = absurd cc
  more [] (suc k) at = absurd cc
  more (y ∷ xs) zero at = ap (λ z. z ∷ []) (let same : y ≡ x = cc in same)
  more (y ∷ xs) (suc k) at = ap (λ (ys : List X). y ∷ ys) (more xs k at)

pub take-past : {X : Type 0} (xs : List X) (k : ℕ) → length xs ≤ k → take k xs ≡ xs
take-past [] zero h = refl
take-past [] (suc k) h = refl
take-past (x ∷ xs) zero h = absurd (omega (arith, h))
take-past {X} (x ∷ xs) (suc k) h = ap (λ (ys : List X). x ∷ ys) (take-past xs k (omega (arith, h)))

-- the acts of the nodes below a number were done
abbrev pub AreDone : (List ℕ → List Act) → ℕ → ℕ → DriverView → ℕ → DriverView → Type 0
AreDone acts c n d p e = Acted c c d (acts (take p (range_with_len 0 n))) e

module _ (acts : List ℕ → List Act) (parts : (xs ys : List ℕ) → acts (xs ++ ys) ≡ acts xs ++ acts ys) (c n : ℕ) (d : DriverView) where
  -- the next node's acts were done
  pub done-next : (p : ℕ) (e f : DriverView) → p < n → AreDone acts c n d p e → Acted c c e (acts (p ∷ [])) f → AreDone acts c n d (p + 1) f
  done-next p e f within first second =
      subst (λ (all : List Act). Acted c c d all f) (sym (ap acts (take-next (range_with_len 0 n) p p (drop (p + 1) (range_with_len 0 n)) (next-range n p within)) ∙ parts (take p (range_with_len 0 n)) (p ∷ [])))
      (acted-then c c c d e f (acts (take p (range_with_len 0 n))) (acts (p ∷ [])) first second)

  -- the next node stopped the run
  pub done-stops : (p : ℕ) (e : DriverView) (why : Halt) (nodes : List NodeView) → p < n → AreDone acts c n d p e → StopsWithin c e (acts (p ∷ [])) why nodes → StopsWithin c d (acts (range_with_len 0 n)) why nodes
  done-stops p e why nodes within first stop =
      let rest = drop (p + 1) (range_with_len 0 n) in
      let all : acts (range_with_len 0 n) ≡ acts (take p (range_with_len 0 n)) ++ (acts (p ∷ []) ++ acts rest) =
      ap acts (split (range_with_len 0 n) p ∙ ap (λ (ks : List ℕ). take p (range_with_len 0 n) ++ ks) (next-range n p within)) ∙ parts (take p (range_with_len 0 n)) (p ∷ rest) ∙ ap (λ (more : List Act). acts (take p (range_with_len 0 n)) ++ more) (parts (p ∷ []) rest) in
      subst (λ (done : List Act). StopsWithin c d done why nodes) (sym all)
      (stops-behind c c d e (acts (take p (range_with_len 0 n))) (acts (p ∷ []) ++ acts rest) why nodes first (stops-before c e (acts (p ∷ [])) (acts rest) why nodes stop))

  -- all were done
  pub done-all : (p : ℕ) (e : DriverView) → n ≤ p → AreDone acts c n d p e → Acted c c d (acts (range_with_len 0 n)) e
  done-all p e past h = subst (λ (ks : List ℕ). Acted c c d (acts ks) e) (take-past (range_with_len 0 n) p (omega (arith, past, length-range_with_len 0 n))) h

-- ---- the acts of a sync

map-append : {X Y : Type 0} (f : X → Y) (xs ys : List X) → map f (xs ++ ys) ≡ map f xs ++ map f ys
map-append f [] ys = refl
map-append {X} {Y} f (x ∷ xs) ys = ap (λ (zs : List Y). f x ∷ zs) (map-append f xs ys)

pub posts-parts : (xs ys : List ℕ) → map Post (xs ++ ys) ≡ map Post xs ++ map Post ys
posts-parts xs ys = map-append Post xs ys

-- node p takes the messages of these nodes but its own
abbrev pub takes_of : ℕ → ℕ → List ℕ → List Act
takes_of i p nodes = map (λ q. Take p (i + q)) (filter (λ q. not (q == p)) nodes)

pub takes-parts : (i p : ℕ) (xs ys : List ℕ) → takes_of i p (xs ++ ys) ≡ takes_of i p xs ++ takes_of i p ys
takes-parts i p [] ys = refl
takes-parts i p (q ∷ xs) ys = here (not (q == p)) (takes-parts i p xs ys) where
  here : (b : Bool) → takes_of i p (xs ++ ys) ≡ takes_of i p xs ++ takes_of i p ys
      → map (λ (k : ℕ). Take p (i + k)) (if b then q ∷ filter (λ k. not (k == p)) (xs ++ ys) else filter (λ k. not (k == p)) (xs ++ ys)) ≡ map (λ (k : ℕ). Take p (i + k)) (if b then q ∷ filter (λ k. not (k == p)) xs else filter (λ k. not (k == p)) xs) ++ takes_of i p ys
  here true rest = ap (λ (more : List Act). Take p (i + q) ∷ more) rest
  here false rest = rest

abbrev kept : ℕ → ℕ → ℕ → Bool → List Act
kept i p q b = map (λ (k : ℕ). Take p (i + k)) (if b then q ∷ [] else [])

pub takes-other : (i p q : ℕ) → not (q == p) ≡ true → takes_of i p (q ∷ []) ≡ Take p (i + q) ∷ []
takes-other i p q other = ap (kept i p q) other

pub takes-own : (i p q : ℕ) → not (q == p) ≡ false → takes_of i p (q ∷ []) ≡ []
takes-own i p q own = ap (kept i p q) own

pub all-parts : (n i : ℕ) (xs ys : List ℕ) → flat_map (takes n i) (xs ++ ys) ≡ flat_map (takes n i) xs ++ flat_map (takes n i) ys
all-parts n i [] ys = refl
all-parts n i (p ∷ xs) ys = ap (λ (more : List Act). takes n i p ++ more) (all-parts n i xs ys) ∙ sym (append_assoc (takes n i p) (flat_map (takes n i) xs) (flat_map (takes n i) ys))

-- messages that are taken leave the stage
pub taken-stage : (s : Stage) (i p : ℕ) (qs : List ℕ) → all_staged s (takes_of i p qs) ≡ s
taken-stage s i p [] = refl
taken-stage s i p (q ∷ qs) = here (not (q == p)) (taken-stage s i p qs) where
  here : (b : Bool) → all_staged s (takes_of i p qs) ≡ s → all_staged s (map (λ (k : ℕ). Take p (i + k)) (if b then q ∷ filter (λ k. not (k == p)) qs else filter (λ k. not (k == p)) qs)) ≡ s
  here true rest = rest
  here false rest = rest

pub all-taken-stage : (s : Stage) (n i : ℕ) (ps : List ℕ) → all_staged s (flat_map (takes n i) ps) ≡ s
all-taken-stage s n i [] = refl
all-taken-stage s n i (p ∷ ps) = staged-append s (takes n i p) (flat_map (takes n i) ps) ∙ ap (λ (t : Stage). all_staged t (flat_map (takes n i) ps)) (taken-stage s i p (range_with_len 0 n)) ∙ all-taken-stage s n i ps

pub posted-stage : (s : Stage) (ps : List ℕ) → all_staged s (map Post ps) ≡ record { graph = s.graph; marked = s.marked; sent = s.sent + length ps }
posted-stage s [] = ap (λ (n : ℕ). record { graph = s.graph; marked = s.marked; sent = n }) (let same : s.sent ≡ s.sent + 0 = omega arith in same)
posted-stage s (p ∷ ps) =
    posted-stage (record { graph = s.graph; marked = s.marked; sent = s.sent + 1 }) ps ∙ ap (λ (n : ℕ). record { graph = s.graph; marked = s.marked; sent = n }) (let same : (s.sent + 1) + length ps ≡ s.sent + length (p ∷ ps) = omega arith in same)

pub other-node : (q p : ℕ) → (q ≡ p → ⊥) → not (q == p) ≡ true
other-node q p other = ap not (ne_eqb q p other)

pub own-node : (q p : ℕ) → q ≡ p → not (q == p) ≡ false
own-node q p same = ap not (eq-eqb q p same)

-- every node sent, and then each took what the others sent
pub acts-sync : {A : Type 0} (c : ℕ) (d e f : DriverView) (many k first i : ℕ) (result : Result A Halt) → k ≡ many → i ≡ first → Acted c c d (map Post (range_with_len 0 many)) e → ActsSeen c c e (flat_map (takes k i) (range_with_len 0 k)) result f
    → ActsSeen c c d (sync_acts many first) result f
acts-sync c d e f many k first i result same number sent taken =
    acts-then c c c d e f (map Post (range_with_len 0 many)) (flat_map (takes many first) (range_with_len 0 many)) result sent
    (subst (λ (j : ℕ). ActsSeen c c e (flat_map (takes many j) (range_with_len 0 many)) result f) number (subst (λ (n : ℕ). ActsSeen c c e (flat_map (takes n i) (range_with_len 0 n)) result f) same taken))

pub ok-then : {A E X : Type 0} (result : Result A E) (old mid new : X) → mid ≡ old → OnOk result (new ≡ mid) → OnOk result (new ≡ old)
ok-then (Ok done) old mid new first second = second ∙ first
ok-then (Err why) old mid new first second = tt
