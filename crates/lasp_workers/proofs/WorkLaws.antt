-- How the parts of a worker's calls make up the whole.
use Rattle.std.proofs.Common.{◌≡◌, ℕ, zero, suc, ◌+◌, ◌-◌, ◌^◌, ◌≤◌, ◌<◌, min, Bool, true, false, if◌then◌else◌, List, [], ◌∷◌, ◌++◌, length, Option, Some, None, refl, sym, ap, subst, ◌∙◌, append-nil, append_assoc, length-append, arith}
use Rattle.std.specs.Prelude.{All, slice_set, slice_index_or, map, take}
use Rattle.std.specs.List.{AllByRecursion, AllZip, sum_by}
use Rattle.std.proofs.lemmas.List.Elements.{All-set, All-get_or, All-push}
use Rattle.std.proofs.lemmas.List.{take_more_set, map-append, length-map}
use Rattle.model_journal.specs.Callers.{made_by}
use Rattle.model_journal.specs.Entry.{Bind, Entry, Frame, entry}
use Rattle.lasp_replica.specs.Jobs.{greatest_count, counted_up}
use Rattle.lasp_core.specs.Listed.{GoesOn, EndsWith}
use Rattle.lasp_core.specs.Listed.{IsLater as IsLaterCount}
use Rattle.lasp_workers.specs.declared.replicas.Replica.{Replica}
use Rattle.lasp_workers.specs.Replicas.{pair_of}
use Rattle.lasp_workers.specs.Worked.{IsBind, GoesOnByResults, own, HasGrown, IsLater, own_entries, all_entries, all_owed, HasAdded, HasEnded, HasAsked, HaveWorked}
use Rattle.lasp_workers.proofs.ListLaws.{zip-set, zip-itself, zip-chain, sum-set, All-get-set, All-unset, map-set, written-back}

-- ---- lists that go on

goes-chain : (a b c : List Entry) → GoesOn a b → GoesOn b c → GoesOn a c
goes-chain a b c x y = (x.0 ++ y.0, y.1 ∙ ap (λ (l : List Entry). l ++ y.0) x.1 ∙ append_assoc a x.0 y.0)

results-append : (a b : List Entry) → AllByRecursion (λ e. IsBind e.act) a → AllByRecursion (λ e. IsBind e.act) b → AllByRecursion (λ e. IsBind e.act) (a ++ b)
results-append [] b x y = y
results-append (e ∷ a) b x y = (x.0, results-append a b x.1 y)

results-chain : (a b c : List Entry) → GoesOnByResults a b → GoesOnByResults b c → GoesOnByResults a c
results-chain a b c x y = (x.0 ++ y.0, y.1 ∙ ap (λ (l : List Entry). l ++ y.0) x.1 ∙ append_assoc a x.0 y.0, results-append x.0 y.0 x.2 y.2)

looks-none : (a b : Option ℕ) → IsLaterCount a b → a ≡ None → b ≡ None
looks-none None b l e = l
looks-none (Some n) b l e = absurd (cc)

module _ {J P : Type 0} (place : J → P) (frame : J → Frame) (caller : J → ℕ) (list : J → List Entry) where
  abbrev Grown : J → J → Type 0
  Grown old new = HasGrown place frame caller list old new

  abbrev Later : ℕ × J → ℕ × J → Type 0
  Later old new = IsLater place frame caller list old new

  pub grown-itself : (j : J) → Grown j j
  grown-itself j = record {
    place_is = refl;
    frame_is = refl;
    caller_is = refl;
    list_on = ([], sym (append-nil (list j)));
    results = ([], sym (append-nil (own caller list j)), tt);
  }

  pub grown-chain : (a b c : J) → Grown a b → Grown b c → Grown a c
  grown-chain a b c x y = record {
    place_is = y.place_is ∙ x.place_is;
    frame_is = y.frame_is ∙ x.frame_is;
    caller_is = y.caller_is ∙ x.caller_is;
    list_on = goes-chain (list a) (list b) (list c) x.list_on y.list_on;
    results = results-chain (own caller list a) (own caller list b) (own caller list c) x.results y.results;
  }

  later-chain : (a b c : ℕ × J) → Later a b → Later b c → Later a c
  later-chain a b c x y = record { node = y.node ∙ x.node; jobs = grown-chain a.1 b.1 c.1 x.jobs y.jobs }

  later-itself : (a : ℕ × J) → Later a a
  later-itself a = record { node = refl; jobs = grown-itself a.1 }

  pub laters-chain : (xs ys zs : List (ℕ × J)) → AllZip Later xs ys → AllZip Later ys zs → AllZip Later xs zs
  laters-chain xs ys zs x y = zip-chain Later later-chain xs ys zs x y

  pub laters-itself : (xs : List (ℕ × J)) → AllZip Later xs xs
  laters-itself xs = zip-itself Later later-itself xs

  pub laters-set : (xs ys : List (ℕ × J)) (i : ℕ) (d y : ℕ × J) → AllZip Later xs ys → i < length ys → Later (slice_index_or ys i d) y → AllZip Later xs (slice_set ys i y)
  laters-set xs ys i d y all low last = zip-set Later xs ys i d y all low (λ x before. later-chain x (slice_index_or ys i d) y before last)

module _ {J P : Type 0} (place : J → P) (frame : J → Frame) (caller : J → ℕ) (list : J → List Entry) (looks : J → Option ℕ) (rows_owed : J → ℕ) where
  abbrev Added : ℕ → J → J → Type 0
  Added n old new = HasAdded place frame caller list looks rows_owed n old new

  -- a call that added nothing of its caller's
  pub added-none : (a b : J) → place b ≡ place a → frame b ≡ frame a → caller b ≡ caller a → GoesOn (list a) (list b) → made_by (caller a) (list b) ≡ made_by (caller a) (list a) → (looks a ≡ None → list b ≡ list a) → IsLaterCount (looks a) (looks b)
      → Added 0 a b
  added-none a b p f c on mine alone later =
      let same : own caller list b ≡ own caller list a = ap (λ (n : ℕ). made_by n (list b)) c ∙ mine in record {
        grown = record { place_is = p; frame_is = f; caller_is = c; list_on = on; results = ([], same ∙ sym (append-nil (own caller list a)), tt) };
        own_more = ap (λ (l : List Entry). length l) same ∙ omega arith;
        alone = λ none. (looks-none (looks a) (looks b) later none, ap (λ (l : List Entry). length l) (alone none) ∙ omega arith);
      }

  -- a call that added one result
  pub added-one : (a b : J) (y n : ℕ) → place b ≡ place a → frame b ≡ frame a → caller b ≡ caller a → EndsWith (entry (caller a) (Bind y n)) (list a) (list b)
      → made_by (caller a) (list b) ≡ made_by (caller a) (list a) ++ entry (caller a) (Bind y n) ∷ [] → (looks a ≡ None → list b ≡ list a ++ entry (caller a) (Bind y n) ∷ []) → IsLaterCount (looks a) (looks b)
      → Added 1 a b
  added-one a b y n p f c ends mine alone later =
      let more : own caller list b ≡ own caller list a ++ entry (caller a) (Bind y n) ∷ [] = ap (λ (k : ℕ). made_by k (list b)) c ∙ mine in record {
        grown = record { place_is = p; frame_is = f; caller_is = c; list_on = (ends.0 ++ entry (caller a) (Bind y n) ∷ [], ends.1); results = (entry (caller a) (Bind y n) ∷ [], more, (tt, tt)) };
        own_more = ap (λ (l : List Entry). length l) more ∙ length-append (own caller list a) (entry (caller a) (Bind y n) ∷ []);
        alone = λ none. (looks-none (looks a) (looks b) later none, ap (λ (l : List Entry). length l) (alone none) ∙ length-append (list a) (entry (caller a) (Bind y n) ∷ []));
      }

  pub added-chain : (m n : ℕ) (a b c : J) → Added m a b → Added n b c → Added (m + n) a c
  added-chain m n a b c x y = record {
    grown = grown-chain place frame caller list a b c x.grown y.grown;
    own_more = let one = x.own_more in let two = y.own_more in omega (arith, one, two);
    alone = λ none. let one = x.alone none in let two = y.alone one.0 in (two.0, omega (arith, one.1, two.1));
  }

  pub added-itself : (a : J) → Added 0 a a
  added-itself a = record { grown = grown-itself place frame caller list a; own_more = omega arith; alone = λ none. (none, omega arith) }

  abbrev Few : ℕ × J → Type 0
  Few p = rows_owed p.1 < greatest_count

  abbrev Asked : ℕ → ℕ → ℕ → ℕ × J → ℕ × J → Type 0
  Asked n t u old new = HasAsked place frame caller list looks rows_owed n t u old new

  abbrev Worked : ℕ → ℕ → ℕ → List (ℕ × J) → List (ℕ × J) → Type 0
  Worked n t u old new = HaveWorked place frame caller list looks rows_owed n t u old new

  -- nothing was asked
  pub asked-itself : (t : ℕ) (a : ℕ × J) → Asked 0 t t a a
  asked-itself t a = record { node = refl; added = added-itself a.1; few = λ low. (omega arith, omega arith) }

  -- a job was taken and done
  pub asked-done : (n t u rows node : ℕ) (a b c : J) → Added 0 a b → rows_owed b ≡ counted_up (rows_owed a) rows → HasEnded place frame caller list looks rows_owed n b c → u ≤ t + rows → Asked n t u (node, a) (node, c)
  asked-done n t u rows node a b c x owed y ticks = record {
    node = refl;
    added = subst (λ (k : ℕ). Added k a c) (omega arith) (added-chain 0 n a b c x y.added);
    few = λ low. let same = y.owed in (omega (arith, low, owed, same), omega (arith, low, owed, same, ticks));
  }

  -- none was taken
  pub asked-none : (t node : ℕ) (a b : J) → Added 0 a b → rows_owed b ≡ rows_owed a → Asked 0 t t (node, a) (node, b)
  asked-none t node a b x owed = record {
    node = refl;
    added = x;
    few = λ low. (omega (arith, owed), omega (arith, owed));
  }

  pub worked-itself : (t : ℕ) (xs : List (ℕ × J)) → Worked 0 t t xs xs
  worked-itself t xs = record {
    later = laters-itself place frame caller list xs;
    own_more = omega arith;
    alone = λ none. (none, omega arith);
    few = λ low. (low, omega arith);
  }

  pub worked-chain : (m n s t u : ℕ) (xs ys zs : List (ℕ × J)) → Worked m s t xs ys → Worked n t u ys zs → Worked (m + n) s u xs zs
  worked-chain m n s t u xs ys zs x y = record {
    later = laters-chain place frame caller list xs ys zs x.later y.later;
    own_more = let one = x.own_more in let two = y.own_more in omega (arith, one, two);
    alone = λ none. let one = x.alone none in let two = y.alone one.0 in (two.0, omega (arith, one.1, two.1));
    few = λ low. let two = y.few low in let one = x.few two.0 in (one.0, omega (arith, one.1, two.1));
  }

  -- one more was asked
  pub worked-set : (m n s t u i : ℕ) (d y : ℕ × J) (xs ys : List (ℕ × J)) → i < length ys → Worked m s t xs ys → Asked n t u (slice_index_or ys i d) y → Worked (m + n) s u xs (slice_set ys i y)
  worked-set m n s t u i d y xs ys low x last = record {
    later = laters-set place frame caller list xs ys i d y x.later low (record { node = last.node; jobs = last.added.grown });
    own_more = let one = x.own_more in let two = last.added.own_more in let three = sum-set (λ (p : ℕ × J). length (own caller list p.1)) ys i d y low in omega (arith, one, two, three);
    alone = λ none.
        let one = x.alone none in
        let here = last.added.alone (All-get_or (λ (p : ℕ × J). looks p.1 ≡ None) ys i d low one.0) in
        let sum = sum-set (λ (p : ℕ × J). length (list p.1)) ys i d y low in
        (All-set (λ (p : ℕ × J). looks p.1 ≡ None) ys i y here.0 one.0, omega (arith, one.1, here.1, sum));
    few = λ all. below all;
  } where
    below : All Few (slice_set ys i y) → All Few xs × (u + all_owed rows_owed xs ≤ s + all_owed rows_owed (slice_set ys i y))
    below all =
        let here : rows_owed y.1 < greatest_count = All-get-set Few ys i y low all in
        let few = last.few here in
        let before = x.few (All-unset Few ys i d y low (omega (arith, here, few.0)) all) in
        let sum = sum-set (λ (p : ℕ × J). rows_owed p.1) ys i d y low in
        (before.0, omega (arith, before.1, few.1, sum))

-- ---- counts

pub counted-on : (m n a b : ℕ) → a ≡ counted_up 0 m → b ≡ counted_up 0 n → min (a + b) greatest_count ≡ counted_up 0 (m + n)
counted-on m n a b one two = omega (arith, one, two)

-- a count that goes on by some more
pub counted-up : (m n a : ℕ) → a ≡ counted_up 0 m → counted_up a n ≡ counted_up 0 (m + n)
counted-up m n a is = omega (arith, is)

pub counted-between : (m n was now : ℕ) → m ≡ counted_up 0 n → now ≡ was + n → m ≡ counted_up 0 (now - was)
counted-between m n was now count more = omega (arith, count, more)

pub counted-nothing : (n : ℕ) → counted_up 0 n ≡ 0 → n ≡ 0
counted-nothing n none = omega (arith, none)

-- ---- the ends of jobs

module _ {J P : Type 0} (place : J → P) (frame : J → Frame) (caller : J → ℕ) (list : J → List Entry) (looks : J → Option ℕ) (rows_owed : J → ℕ) where
  abbrev Ended : ℕ → J → J → Type 0
  Ended n old new = HasEnded place frame caller list looks rows_owed n old new

  -- a job that was given back, or whose result was refused
  pub ended-none : (a b : J) → place b ≡ place a → frame b ≡ frame a → caller b ≡ caller a → GoesOn (list a) (list b) → made_by (caller a) (list b) ≡ made_by (caller a) (list a) → (looks a ≡ None → list b ≡ list a) → IsLaterCount (looks a) (looks b) → rows_owed b ≡ rows_owed a
      → Ended 0 a b
  ended-none a b p f c on mine alone later owed = record { added = added-none place frame caller list looks rows_owed a b p f c on mine alone later; owed = owed }

  -- a job whose result was taken
  pub ended-one : (a b : J) (y n : ℕ) → place b ≡ place a → frame b ≡ frame a → caller b ≡ caller a → EndsWith (entry (caller a) (Bind y n)) (list a) (list b)
      → made_by (caller a) (list b) ≡ made_by (caller a) (list a) ++ entry (caller a) (Bind y n) ∷ [] → (looks a ≡ None → list b ≡ list a ++ entry (caller a) (Bind y n) ∷ []) → IsLaterCount (looks a) (looks b) → rows_owed b ≡ rows_owed a
      → Ended 1 a b
  ended-one a b y n p f c ends mine alone later owed = record { added = added-one place frame caller list looks rows_owed a b y n p f c ends mine alone later; owed = owed }

  -- a job whose result was refused, and that was given back then
  pub ended-both : (a b c : J) → Ended 0 a b → Ended 0 b c → Ended 0 a c
  ended-both a b c x y = record { added = added-chain place frame caller list looks rows_owed 0 0 a b c x.added y.added; owed = y.owed ∙ x.owed }

-- ---- rounds

get-map : {A B : Type 0} (f : A → B) (xs : List A) (i : ℕ) (d : A) → slice_index_or (map f xs) i (f d) ≡ f (slice_index_or xs i d)
get-map f [] i d = refl
get-map f (x ∷ xs) zero d = refl
get-map f (x ∷ xs) (suc i) d = get-map f xs i d

module _ {J P : Type 0} (place : J → P) (frame : J → Frame) (caller : J → ℕ) (list : J → List Entry) (looks : J → Option ℕ) (rows_owed : J → ℕ) where
  -- the replica at a place was asked
  pub round-worked : (m n s t u i : ℕ) (d r : Replica J) (first items : List (Replica J)) → i < length items → HaveWorked place frame caller list looks rows_owed m s t (map pair_of first) (map pair_of items)
      → HasAsked place frame caller list looks rows_owed n t u (pair_of (slice_index_or items i d)) (pair_of r) → HaveWorked place frame caller list looks rows_owed (m + n) s u (map pair_of first) (map pair_of (slice_set items i r))
  round-worked m n s t u i d r first items low before last =
      subst (λ (l : List (ℕ × J)). HaveWorked place frame caller list looks rows_owed (m + n) s u (map pair_of first) l) (sym (map-set pair_of items i r))
      (worked-set place frame caller list looks rows_owed m n s t u i (pair_of d) (pair_of r) (map pair_of first) (map pair_of items)
      (subst (λ (k : ℕ). i < k) (sym (length-map items pair_of)) low) before
      (subst (λ (p : ℕ × J). HasAsked place frame caller list looks rows_owed n t u p (pair_of r)) (sym (get-map pair_of items i d)) last))

-- what holds of the replicas that were asked holds of the one that was asked last, too
pub round-done : {J : Type 0} (P : ℕ × J → Type 0) (items : List (Replica J)) (i : ℕ) (r : Replica J) → i < length items → All P (map pair_of (take i items)) → P (pair_of r) → All P (map pair_of (take (i + 1) (slice_set items i r)))
round-done P items i r low before last =
    subst (λ (l : List _). All P l) (sym (ap (map pair_of) (take_more_set items i r low) ∙ map-append pair_of (take i items) (r ∷ [])))
    (All-push P (map pair_of (take i items)) (pair_of r) before last)

-- one round behind others, whose replicas stand where those stood that were borrowed for it
pub round-chain : {J P : Type 0} (place : J → P) (frame : J → Frame) (caller : J → ℕ) (list : J → List Entry) (looks : J → Option ℕ) (rows_owed : J → ℕ)
    (m n s t u : ℕ) (first : List (ℕ × J)) (items taken new rest : List (Replica J)) (len : ℕ) → length new ≡ len → taken ≡ items
    → HaveWorked place frame caller list looks rows_owed m s t first (map pair_of items) → HaveWorked place frame caller list looks rows_owed n t u (map pair_of taken) (map pair_of new)
    → HaveWorked place frame caller list looks rows_owed (m + n) s u first (map pair_of (take len (new ++ rest)))
round-chain place frame caller list looks rows_owed m n s t u first items taken new rest len size same before last =
    subst (λ (l : List (Replica _)). HaveWorked place frame caller list looks rows_owed (m + n) s u first (map pair_of l)) (sym (written-back new rest len size))
    (worked-chain place frame caller list looks rows_owed m n s t u first (map pair_of items) (map pair_of new) before
    (subst (λ (l : List (Replica _)). HaveWorked place frame caller list looks rows_owed n t u (map pair_of l) (map pair_of new)) same last))
