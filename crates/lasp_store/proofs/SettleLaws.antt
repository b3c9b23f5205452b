-- What a feed's turns add to a journal while it settles: results of jobs alone, its own and those of others.
use Rattle.std.proofs.Common.{◌≡◌, ℕ, zero, suc, ◌+◌, ◌==◌, ◌≤◌, ◌<◌, Bool, true, false, List, [], ◌∷◌, ◌++◌, length, cond, refl, sym, ap, subst, ◌∙◌, append-nil, append_assoc, arith}
use Rattle.std.specs.Prelude.{All, Some, None, Option, Err}
use mathlib.Core.List.{IsPrefix}
use Rattle.std.proofs.lemmas.List.{length-append}
use Rattle.std.proofs.lemmas.List.Elements.{All-nil, All-cons, All-head, All-tail, filter-append}
use Rattle.model_states.specs.Content.{Content}
use Rattle.model_graph.specs.Graph.{Decl, is_source, kind_at}
use Rattle.model_graph.specs.Evaluation.{first_large}
use Rattle.model_graph.specs.Lawful.{IsDerived}
use Rattle.model_journal.specs.Entry.{Act, Update, Deliver, Bind, Extend, Entry, Frame, entry}
use Rattle.model_journal.specs.Journal.{graph, vals, declared_by, declared}
use Rattle.model_journal.proofs.EntryLaws.{graph-is}
use Rattle.model_journal.specs.Callers.{MayMake, made_by}
use Rattle.model_journal.specs.Legal.{IsLegal}
use Rattle.model_journal.proofs.LegalLaws.{legal-first}
use Rattle.model_core.specs.Peer.{peer_of}
use Rattle.model_core.specs.Core.{Core}
use Rattle.lasp_core.specs.declared.watched.Settle.{Settle}
use Rattle.lasp_core.specs.declared.watched.Settle.TheVariants as settle
use Rattle.lasp_histlock.specs.Names.{LockId}
use Rattle.lasp_histlock.specs.Passes.{after_rejoin}
use Rattle.lasp_store.specs.Turn.{Knows, IsSeated, frame_in, frame_of, graph_seen, looked_at, HadTurn, HasBegun}
use Rattle.lasp_store.specs.Settled.{IsBind, AreBinds, GoesOnByBinds, HasBound, KnowsOwn, HasSettled, IsDone, evaluation, AreEvaluatedBelow, Settles, TellsFirst}
use Rattle.lasp_store.proofs.EvaluatedLaws.{IsKept, kept-binds, same-evaluation, evaluated-stays, evaluated-source, evaluated-clean, evaluated-bound, all-evaluated, all-small}

-- ---- entries of others

binds-append : (a b : List Entry) → AreBinds a → AreBinds b → AreBinds (a ++ b)
binds-append [] b x y = y
binds-append (e ∷ a) b x y = (x.0, binds-append a b x.1 y)

-- who isn't the feed makes results alone
others-bind : (by : ℕ) (act : Act) → (by == 0) ≡ false → MayMake by act → IsBind act
others-bind zero act other may = absurd (let same : true ≡ false = other in cc)
others-bind (suc by) (Update x op) other may = absurd (omega (arith, may))
others-bind (suc by) (Deliver i m) other may = absurd (omega (arith, may))
others-bind (suc by) (Bind y n) other may = tt
others-bind (suc by) (Extend d) other may = absurd (omega (arith, may))

-- entries of which those of the feed are results are results
abbrev IsAllowed : Entry → Type 0
IsAllowed e = (e.by ≡ e.by) × MayMake e.by e.act

rest-binds : (rest mine : List Entry) → All IsAllowed rest → made_by 0 rest ≡ mine → AreBinds mine → AreBinds rest
rest-binds [] mine may is are = tt
rest-binds (e ∷ rest) mine may is are = choose (λ (own : List Entry). rest-binds rest own (All-tail IsAllowed e rest may)) (e.by == 0) refl where
  choose : ((own : List Entry) → made_by 0 rest ≡ own → AreBinds own → AreBinds rest) → (b : Bool) → (e.by == 0) ≡ b → AreBinds (e ∷ rest)
  choose below true own =
      let head : made_by 0 (e ∷ rest) ≡ e ∷ made_by 0 rest = ap (λ (b : Bool). cond b (e ∷ made_by 0 rest) (made_by 0 rest)) own in
      let all : AreBinds (e ∷ made_by 0 rest) = subst AreBinds (sym is ∙ head) are in
      (all.0, below (made_by 0 rest) refl all.1)
  choose below false other =
      let tail : made_by 0 (e ∷ rest) ≡ made_by 0 rest = ap (λ (b : Bool). cond b (e ∷ made_by 0 rest) (made_by 0 rest)) other in
      (others-bind e.by e.act other (All-head IsAllowed e rest may).1, below mine (sym tail ∙ is) are)

all-last : (P : Entry → Type 0) (a b : List Entry) → All P (a ++ b) → All P b
all-last P [] b all = all
all-last P (e ∷ a) b all = all-last P a b (All-tail P e (a ++ b) all)

cancel : (a b c : List Entry) → a ++ b ≡ a ++ c → b ≡ c
cancel [] b c e = e
cancel (x ∷ a) b c e = cancel a b c (let whole : x ∷ (a ++ b) ≡ x ∷ (a ++ c) = e in cc)

-- ---- one turn of the feed

-- what came to the list since the feed's last turn, of which the feed made the entries of this one
pub record HasRest (more rest : List Entry) (old new : Knows) : Type 0 where
  pub seen : new.seen ≡ old.seen ++ rest
  pub may : All IsAllowed rest
  pub mine : made_by 0 rest ≡ more

rest-is : (old new : Knows) (rest more : List Entry) → KnowsOwn old → KnowsOwn new → old.number ≡ 0 → new.number ≡ old.number → new.seen ≡ old.seen ++ rest → new.own ≡ old.own ++ more → HasRest more rest old new
rest-is old new rest more own-old own-new first number seen grown = record {
  seen = seen;
  may = all-last IsAllowed old.seen rest (subst (λ (l : List Entry). All IsAllowed l) seen own-new.allowed);
  mine = cancel (made_by 0 old.seen) (made_by 0 rest) more whole;
} where
  whole : made_by 0 old.seen ++ made_by 0 rest ≡ made_by 0 old.seen ++ more
  whole =
      sym (filter-append (λ (e : Entry). e.by == 0) old.seen rest)
      ∙ ap (λ (l : List Entry). made_by 0 l) (sym seen)
      ∙ ap (λ (n : ℕ). made_by n new.seen) (sym (number ∙ first))
      ∙ sym own-new.own
      ∙ grown
      ∙ ap (λ (l : List Entry). l ++ more) (own-old.own ∙ ap (λ (n : ℕ). made_by n old.seen) first)

pub turn-rest : (old new : Knows) (more : List Entry) → KnowsOwn old → KnowsOwn new → old.number ≡ 0 → (t : HadTurn more old new) → HasRest more (t.goes_on.0 ++ more) old new
turn-rest old new more own-old own-new first t =
    rest-is old new (t.goes_on.0 ++ more) more own-old own-new first (ap (λ (p : Knows). p.number) t.pass)
    (ap (λ (p : Knows). p.seen) t.pass ∙ ap (λ (l : List Entry). l ++ more) t.goes_on.1 ∙ append_assoc old.seen t.goes_on.0 more)
    (ap (λ (p : Knows). p.own) t.pass)

pub turn-settles : (old new : Knows) (more : List Entry) → KnowsOwn old → KnowsOwn new → old.number ≡ 0 → old.turn ≡ false → AreBinds more → HadTurn more old new → HasSettled old new
turn-settles old new more own-old own-new first idle are t = record {
  pass = (λ i. record (t.pass i) { seen = new.seen; own = new.own; misses = new.misses; looks = new.looks; told = new.told })
      ∙ (λ i. record old { turn = sym idle i; seen = new.seen; own = new.own; misses = new.misses; looks = new.looks; told = new.told });
  seen = (t.goes_on.0 ++ more, r.seen, rest-binds (t.goes_on.0 ++ more) more r.may r.mine are);
  own = (more, ap (λ (p : Knows). p.own) t.pass, are);
  misses = t.misses;
  looks = omega (arith, ap (λ (p : Knows). p.looks) t.pass);
  told = t.told;
} where
  r : HasRest more (t.goes_on.0 ++ more) old new
  r = turn-rest old new more own-old own-new first t

-- a turn that adds nothing leaves the pass's own entries
pub own-same : (old new : Knows) → KnowsOwn old → KnowsOwn new → HadTurn [] old new → made_by old.number new.seen ≡ made_by old.number old.seen
own-same old new own-old own-new t =
    ap (λ (n : ℕ). made_by n new.seen) (sym (ap (λ (p : Knows). p.number) t.pass))
    ∙ sym own-new.own
    ∙ ap (λ (p : Knows). p.own) t.pass
    ∙ append-nil old.own
    ∙ own-old.own

-- and behind a turn of an entry of its own
pub own-one : (old new : Knows) (e : Entry) → KnowsOwn old → KnowsOwn new → HadTurn (e ∷ []) old new → made_by old.number new.seen ≡ made_by old.number old.seen ++ e ∷ []
own-one old new e own-old own-new t =
    ap (λ (n : ℕ). made_by n new.seen) (sym (ap (λ (p : Knows). p.number) t.pass))
    ∙ sym own-new.own
    ∙ ap (λ (p : Knows). p.own) t.pass
    ∙ ap (λ (own : List Entry). own ++ e ∷ []) own-old.own

-- ---- what the feed declares

declared-append : (a b : List Entry) → declared (a ++ b) ≡ declared a ++ declared b
declared-append [] b = refl
declared-append (e ∷ a) b = ap (λ (l : List Decl). declared_by e.act ++ l) (declared-append a b) ∙ sym (append_assoc (declared_by e.act) (declared a) (declared b))

binds-declare : (act : Act) → IsBind act → declared_by act ≡ []
binds-declare (Update x op) is = refl
binds-declare (Deliver i m) is = refl
binds-declare (Bind y n) is = refl
binds-declare (Extend d) is = absurd is

-- the feed alone declares variables
declared-mine : (rest : List Entry) → All IsAllowed rest → declared rest ≡ declared (made_by 0 rest)
declared-mine [] may = refl
declared-mine (e ∷ rest) may = choose (declared-mine rest (All-tail IsAllowed e rest may)) (e.by == 0) refl where
  choose : declared rest ≡ declared (made_by 0 rest) → (b : Bool) → (e.by == 0) ≡ b → declared (e ∷ rest) ≡ declared (made_by 0 (e ∷ rest))
  choose tail true own =
      ap (λ (l : List Decl). declared_by e.act ++ l) tail
      ∙ sym (ap (λ (b : Bool). declared (cond b (e ∷ made_by 0 rest) (made_by 0 rest))) own)
  choose tail false other =
      ap (λ (l : List Decl). l ++ declared rest) (binds-declare e.act (others-bind e.by e.act other (All-head IsAllowed e rest may).1))
      ∙ tail
      ∙ sym (ap (λ (b : Bool). declared (cond b (e ∷ made_by 0 rest) (made_by 0 rest))) other)

graph-append : (X : Frame) (h rest : List Entry) → graph X (h ++ rest) ≡ graph X h ++ declared rest
graph-append X h rest =
    graph-is X (h ++ rest)
    ∙ ap (λ (l : List Decl). X.opening ++ l) (declared-append h rest)
    ∙ sym (append_assoc X.opening (declared h) (declared rest))
    ∙ ap (λ (l : List Decl). l ++ declared rest) (sym (graph-is X h))

-- so its graph grows by what it declares in the turn
pub turn-graph : (old new : Knows) (more : List Entry) → KnowsOwn old → KnowsOwn new → old.number ≡ 0 → HadTurn more old new → graph_seen new ≡ graph_seen old ++ declared more
turn-graph old new more own-old own-new first t =
    (λ i. graph (ap (λ (p : Knows). frame_of p) t.pass i) (r.seen i))
    ∙ graph-append (frame_of old) old.seen (t.goes_on.0 ++ more)
    ∙ ap (λ (l : List Decl). graph_seen old ++ l) (declared-mine (t.goes_on.0 ++ more) r.may ∙ ap (λ (l : List Entry). declared l) r.mine) where
      r : HasRest more (t.goes_on.0 ++ more) old new
      r = turn-rest old new more own-old own-new first t

-- ---- turns one after the other

pub goes-both : (a b c : List Entry) → GoesOnByBinds a b → GoesOnByBinds b c → GoesOnByBinds a c
goes-both a b c x y = (x.0 ++ y.0, y.1 ∙ ap (λ (l : List Entry). l ++ y.0) x.1 ∙ append_assoc a x.0 y.0, binds-append x.0 y.0 x.2 y.2)

pub settled-both : (a b c : Knows) → HasSettled a b → HasSettled b c → HasSettled a c
settled-both a b c x y = record {
  pass = y.pass ∙ (λ i. record (x.pass i) { seen = c.seen; own = c.own; misses = c.misses; looks = c.looks; told = c.told });
  seen = goes-both a.seen b.seen c.seen x.seen y.seen;
  own = goes-both a.own b.own c.own x.own y.own;
  misses = omega (arith, x.misses, y.misses);
  looks = omega (arith, x.looks, y.looks);
  told = omega (arith, x.told, y.told);
}

pub settled-frame : (a b : Knows) → HasSettled a b → frame_of b ≡ frame_of a
settled-frame a b x = ap (λ (p : Knows). frame_of p) x.pass

pub settled-number : (a b : Knows) → HasSettled a b → b.number ≡ a.number
settled-number a b x = ap (λ (p : Knows). p.number) x.pass

-- ---- what is evaluated while the feed settles

module _ (old new : Knows) (s : HasSettled old new) (legal : IsLegal (frame_of new) new.seen) where
  same-frame : frame_of new ≡ frame_of old
  same-frame = settled-frame old new s

  legal-list : IsLegal (frame_of old) (old.seen ++ s.seen.0)
  legal-list = subst (λ (z : Frame × List Entry). IsLegal z.0 z.1) (λ i. (same-frame i, s.seen.1 i)) legal

  kept : IsKept (frame_of old) old.seen (old.seen ++ s.seen.0)
  kept = kept-binds (frame_of old) old.seen s.seen.0 legal-list s.seen.2

  pub graph-settled : graph_seen new ≡ graph_seen old
  graph-settled = (λ i. graph (same-frame i) (s.seen.1 i)) ∙ kept.graph_is

  pub peer-settled : peer_of (frame_of new) new.seen ≡ peer_of (frame_of old) old.seen
  peer-settled = (λ i. peer_of (same-frame i) (s.seen.1 i)) ∙ kept.peer

  pub evaluation-settled : evaluation (frame_of new) new.seen ≡ evaluation (frame_of old) old.seen
  evaluation-settled = (λ i. evaluation (same-frame i) (s.seen.1 i)) ∙ same-evaluation (frame_of old) old.seen (old.seen ++ s.seen.0) kept

  pub legal-settled : IsLegal (frame_of old) old.seen
  legal-settled = legal-first (frame_of old) old.seen s.seen.0 legal-list

  -- what was evaluated stays so
  pub evaluated-settled : (many : ℕ) → many ≤ length (graph_seen old) → AreEvaluatedBelow (frame_of old) old.seen many → AreEvaluatedBelow (frame_of new) new.seen many
  evaluated-settled many within below =
      subst (λ (z : Frame × List Entry). AreEvaluatedBelow z.0 z.1 many) (λ i. (sym same-frame i, sym s.seen.1 i))
      (evaluated-stays (frame_of old) old.seen s.seen.0 many legal-list s.seen.2 within below)

  -- and a variable that is clean, or a source, comes after it
  pub evaluated-done : (y : ℕ) → y < length (graph_seen old) → AreEvaluatedBelow (frame_of old) old.seen y → IsDone (frame_of new) new.seen y → AreEvaluatedBelow (frame_of new) new.seen (y + 1)
  evaluated-done y low below done = choose (is_source (kind_at (graph_seen new) y)) refl where
    small : y < length (graph_seen new)
    small = let long = ap (λ (g : List Decl). length g) graph-settled in omega (arith, low, long)

    stays : AreEvaluatedBelow (frame_of new) new.seen y
    stays = evaluated-settled y (omega (arith, low)) below

    choose : (b : Bool) → is_source (kind_at (graph_seen new) y) ≡ b → AreEvaluatedBelow (frame_of new) new.seen (y + 1)
    choose true source = evaluated-source (frame_of new) new.seen y small source stays
    choose false process =
        let d : IsDerived (graph_seen new) y = record { declared = small; process = process } in
        evaluated-clean (frame_of new) new.seen legal y d (done d) stays

  -- so does one whose job was taken before and is bound now
  pub evaluated-finished : (y n by : ℕ) → n ≡ length old.seen → IsDerived (graph_seen old) y → AreEvaluatedBelow (frame_of old) old.seen y → HasBound (entry by (Bind y n)) old.seen new.seen → AreEvaluatedBelow (frame_of new) new.seen (y + 1)
  evaluated-finished y n by now derived below b =
      subst (λ (z : Frame × List Entry). AreEvaluatedBelow z.0 z.1 (y + 1)) (λ i. (sym same-frame i, sym b.new_is i))
      (evaluated-bound (frame_of old) old.seen b.between y (entry by (Bind y n)) (ap (λ (m : ℕ). Bind y m) now)
      (subst (λ (z : Frame × List Entry). IsLegal z.0 z.1) (λ i. (same-frame i, b.new_is i)) legal) b.binds derived below)

  pub large-settled : (y : ℕ) → first_large 0 (evaluation (frame_of old) old.seen) ≡ Some y → first_large 0 (evaluation (frame_of new) new.seen) ≡ Some y
  large-settled y is = ap (λ (ss : List Content). first_large 0 ss) evaluation-settled ∙ is

  -- all variables are evaluated, where those before a bound are that no variable reaches
  all-below : (many : ℕ) → length (graph_seen old) ≤ many → many ≤ length (graph_seen old) → AreEvaluatedBelow (frame_of old) old.seen many → AreEvaluatedBelow (frame_of new) new.seen (length (graph_seen new))
  all-below many high within below y low =
      evaluated-settled many within below y (let long = ap (λ (g : List Decl). length g) graph-settled in omega (arith, low, high, long))

  pub all-settled : (many : ℕ) → length (graph_seen old) ≤ many → many ≤ length (graph_seen old) → AreEvaluatedBelow (frame_of old) old.seen many → vals (frame_of new) new.seen ≡ evaluation (frame_of new) new.seen
  all-settled many high within below = all-evaluated (frame_of new) new.seen legal (all-below many high within below)

  pub none-large : (many : ℕ) → length (graph_seen old) ≤ many → many ≤ length (graph_seen old) → AreEvaluatedBelow (frame_of old) old.seen many → first_large 0 (evaluation (frame_of new) new.seen) ≡ None
  none-large many high within below = all-small (frame_of new) new.seen legal (all-below many high within below)

-- what one variable tells, the whole does
pub told-settles : (large : Option ℕ) (why : Settle) → TellsFirst {A = ℕ} large (Err why) → Settles {A = ℕ} large (Err why)
told-settles large (settle.TooLarge x) told = told
told-settles large settle.Memory told = tt

-- a turn of the feed that adds its own result alone: whatever came before it in the turn are results of others
pub turn-bound : (old new : Knows) (e : Entry) → KnowsOwn old → KnowsOwn new → old.number ≡ 0 → e.by ≡ 0 → IsBind e.act → HadTurn (e ∷ []) old new → HasBound e old.seen new.seen
turn-bound old new e own-old own-new first mine is t = record {
  between = t.goes_on.0;
  new_is = ap (λ (p : Knows). p.seen) t.pass ∙ ap (λ (l : List Entry). l ++ e ∷ []) t.goes_on.1;
  binds = binds-first t.goes_on.0 (e ∷ []) (rest-binds (t.goes_on.0 ++ e ∷ []) (e ∷ []) r.may r.mine (is, tt));
} where
  r : HasRest (e ∷ []) (t.goes_on.0 ++ e ∷ []) old new
  r = turn-rest old new (e ∷ []) own-old own-new first t

  binds-first : (a b : List Entry) → AreBinds (a ++ b) → AreBinds a
  binds-first [] b all = tt
  binds-first (x ∷ a) b all = (all.0, binds-first a b all.1)

-- what others added since the feed's last turn declares nothing
others-graph : (old new : Knows) (rest : List Entry) → KnowsOwn old → KnowsOwn new → old.number ≡ 0 → new.number ≡ old.number → new.frame ≡ old.frame → new.seen ≡ old.seen ++ rest → new.own ≡ old.own → graph_seen new ≡ graph_seen old
others-graph old new rest own-old own-new first number frame seen own =
    (λ i. graph (frame_in (frame i)) (r.seen i))
    ∙ graph-append (frame_of old) old.seen rest
    ∙ ap (λ (l : List Decl). graph_seen old ++ l) (declared-mine rest r.may ∙ ap (λ (l : List Entry). declared l) r.mine)
    ∙ append-nil (graph_seen old) where
      r : HasRest [] rest old new
      r = rest-is old new rest [] own-old own-new first number seen (own ∙ sym (append-nil old.own))

-- so the feed that took the core out finds the graph that it has seen
pub begun-graph : (store : LockId) (old new : Knows) (c : Core) → KnowsOwn old → KnowsOwn new → old.number ≡ 0 → HasBegun store old new c → graph_seen new ≡ graph_seen old
begun-graph store old new c own-old own-new first b =
    others-graph old new b.goes_on.0 own-old own-new first (ap (λ (p : Knows). p.number) b.pass) (ap (λ (p : Knows). p.frame) b.pass) (b.turn.seen ∙ b.goes_on.1) (ap (λ (p : Knows). p.own) b.pass)

-- and so does the feed that took a hand back
pub rejoined-graph : (old new hand : Knows) → KnowsOwn old → KnowsOwn new → old.number ≡ 0 → new ≡ after_rejoin hand old → IsPrefix old.seen new.seen → graph_seen new ≡ graph_seen old
rejoined-graph old new hand own-old own-new first is p =
    others-graph old new p.0 own-old own-new first (ap (λ (q : Knows). q.number) is) (ap (λ (q : Knows). q.frame) is) (sym p.1) (ap (λ (q : Knows). q.own) is)

-- ---- sources and counts that the feed has seen

all-first : (P : Entry → Type 0) (a b : List Entry) → All P (a ++ b) → All P a
all-first P [] b all = All-nil P
all-first P (e ∷ a) b all = All-cons P e a (All-head P e (a ++ b) all) (all-first P a b (All-tail P e (a ++ b) all))

-- of the feed's entries the feed's are all
mine-twice : (l : List Entry) → made_by 0 (made_by 0 l) ≡ made_by 0 l
mine-twice [] = refl
mine-twice (e ∷ l) = choose (mine-twice l) (e.by == 0) refl where
  choose : made_by 0 (made_by 0 l) ≡ made_by 0 l → (b : Bool) → (e.by == 0) ≡ b → made_by 0 (made_by 0 (e ∷ l)) ≡ made_by 0 (e ∷ l)
  choose below true own =
      let head : made_by 0 (e ∷ l) ≡ e ∷ made_by 0 l = ap (λ (b : Bool). cond b (e ∷ made_by 0 l) (made_by 0 l)) own in
      ap (λ (k : List Entry). made_by 0 k) head
      ∙ ap (λ (b : Bool). cond b (e ∷ made_by 0 (made_by 0 l)) (made_by 0 (made_by 0 l))) own
      ∙ ap (λ (k : List Entry). e ∷ k) below
      ∙ sym head
  choose below false other =
      let tail : made_by 0 (e ∷ l) ≡ made_by 0 l = ap (λ (b : Bool). cond b (e ∷ made_by 0 l) (made_by 0 l)) other in
      ap (λ (k : List Entry). made_by 0 k) tail ∙ below ∙ sym tail

nothing-before : (a b : List Entry) → a ++ b ≡ b → a ≡ []
nothing-before [] b e = refl
nothing-before (x ∷ a) b e = absurd (omega (arith, length-append a b, ap (λ (l : List Entry). length l) e))

-- what the journal had at a turn of the feed has the sources and counts that it had seen: whatever came meanwhile are results
pub turn-peer : (old new : Knows) (more : List Entry) → KnowsOwn old → KnowsOwn new → old.number ≡ 0 → HadTurn more old new → peer_of (frame_of new) (looked_at new) ≡ peer_of (frame_of old) old.seen
turn-peer old new more own-old own-new first t = (λ i. peer_of (ap (λ (p : Knows). frame_of p) t.pass i) (t.goes_on.1 i)) ∙ kept.peer where
  between : List Entry
  between = t.goes_on.0

  r : HasRest more (between ++ more) old new
  r = turn-rest old new more own-old own-new first t

  mine : made_by 0 more ≡ more
  mine = ap (λ (l : List Entry). made_by 0 l) (sym r.mine) ∙ mine-twice (between ++ more) ∙ r.mine

  none : made_by 0 between ≡ []
  none = nothing-before (made_by 0 between) more
      (ap (λ (l : List Entry). made_by 0 between ++ l) (sym mine) ∙ sym (filter-append (λ (e : Entry). e.by == 0) between more) ∙ r.mine)

  legal : IsLegal (frame_of old) (old.seen ++ between)
  legal = legal-first (frame_of old) (old.seen ++ between) more
      (subst (λ (z : Frame × List Entry). IsLegal z.0 z.1) (λ i. (ap (λ (p : Knows). frame_of p) t.pass i, (r.seen ∙ sym (append_assoc old.seen between more)) i)) t.legal)

  kept : IsKept (frame_of old) old.seen (old.seen ++ between)
  kept = kept-binds (frame_of old) old.seen between legal (rest-binds between [] (all-first IsAllowed between more r.may) none tt)

-- so has the list of a feed that took a hand back
pub rejoined-peer : (store : LockId) (old new hand : Knows) → KnowsOwn old → KnowsOwn new → old.number ≡ 0 → new ≡ after_rejoin hand old → IsPrefix old.seen new.seen → IsSeated store new → peer_of (frame_of new) new.seen ≡ peer_of (frame_of old) old.seen
rejoined-peer store old new hand own-old own-new first is p free = (λ i. peer_of (same i) (r.seen i)) ∙ kept.peer where
  same : frame_of new ≡ frame_of old
  same = ap (λ (q : Knows). frame_of q) is

  r : HasRest [] p.0 old new
  r = rest-is old new p.0 [] own-old own-new first (ap (λ (q : Knows). q.number) is) (sym p.1) (ap (λ (q : Knows). q.own) is ∙ sym (append-nil old.own))

  kept : IsKept (frame_of old) old.seen (old.seen ++ p.0)
  kept = kept-binds (frame_of old) old.seen p.0 (subst (λ (z : Frame × List Entry). IsLegal z.0 z.1) (λ i. (same i, r.seen i)) free.legal) (rest-binds p.0 [] r.may r.mine tt)

-- and so has the core that the feed took out
pub begun-peer : (store : LockId) (old new : Knows) (c : Core) → KnowsOwn old → KnowsOwn new → old.number ≡ 0 → HasBegun store old new c → peer_of c.frame c.entries ≡ peer_of (frame_of old) old.seen
begun-peer store old new c own-old own-new first b = (λ i. peer_of (same i) (b.goes_on.1 i)) ∙ kept.peer where
  same : c.frame ≡ frame_of old
  same = sym (ap frame_in b.turn.frame) ∙ ap (λ (q : Knows). frame_of q) b.pass

  r : HasRest [] b.goes_on.0 old new
  r = rest-is old new b.goes_on.0 [] own-old own-new first (ap (λ (q : Knows). q.number) b.pass) (b.turn.seen ∙ b.goes_on.1) (ap (λ (q : Knows). q.own) b.pass ∙ sym (append-nil old.own))

  kept : IsKept (frame_of old) old.seen (old.seen ++ b.goes_on.0)
  kept = kept-binds (frame_of old) old.seen b.goes_on.0 (subst (λ (z : Frame × List Entry). IsLegal z.0 z.1) (λ i. (same i, b.goes_on.1 i)) b.core.legal) (rest-binds b.goes_on.0 [] r.may r.mine tt)

pub ruleset graphs = (turn-graph)
