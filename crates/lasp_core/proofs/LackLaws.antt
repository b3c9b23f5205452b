-- What lacks a value is at no threshold that asks for it, and goes on lacking it where no row of the value comes.
use Rattle.std.proofs.Common.{◌≡◌, ℕ, zero, suc, ◌+◌, ◌≤◌, Bool, true, false, not, ◌&&◌, ◌||◌, ◌↔◌, IsTrue, List, [], ◌∷◌, ◌++◌, Some, length, take, drop, slice_set, get_or, max, refl, sym, ap, subst, ◌∙◌, ◌⊎◌, inl, inr, arith}
use Rattle.std.specs.Prelude.{slice_get, ◌<◌, Result, Ok, Err, IfOk}
use Rattle.std.specs.List.{AllByRecursion, list_all, list_any}
use Rattle.model_values.specs.Value.{Val}
use Rattle.model_values.specs.Token.{Tok}
use Rattle.model_values.specs.Row.{Row}
use Rattle.model_sets.specs.Rows.{mark, is_of, join, of_rows, HasRow, IsDeadIn}
use Rattle.model_sets.specs.Reads.{HasRowOf, is_row_of}
use Rattle.model_sets.specs.Values.{IsHeld}
use Rattle.model_sets.proofs.ReadLaws.{any-words}
use Rattle.model_sets.proofs.RowLaws.{and-left, and-both, mark-join}
use Rattle.model_states.specs.Content.{Content, of_set, least, IsOrdered, IsContentAtMost}
use Rattle.model_states.specs.Threshold.{Threshold, AtLeast, Above, Count, Added, Removed, meets, is_added, is_removed}
use Rattle.model_states.proofs.DeltaLaws.{insert-value}
use Rattle.model_states.proofs.ThresholdLaws.{added-words, removed-words}
use Rattle.model_graph.specs.Graph.{Decl, is_set, kind_at}
use Rattle.model_journal.specs.Entry.{Entry, Frame}
use Rattle.model_journal.specs.Journal.{graph, val}
use Rattle.model_core.specs.Core.{is_met}
use Rattle.lasp_state.specs.Threshold.{is_in}
use Rattle.lasp_graph.specs.States.{held_at, held_of}
use Rattle.lasp_graph.proofs.DeltaLaws.{set-flat}
use Rattle.lasp_replica.specs.Parts.{history_at}
use Rattle.lasp_replica.specs.Reading.{rows_since, HasChanged}
use Rattle.lasp_replica.specs.Replica.{frame_of, entries_of, parts_of, growths_at, IsReplica}
use Rattle.lasp_replica.proofs.PartLaws.{held-val}
use Rattle.lasp_replica.proofs.ReadLaws.{kept-changed, kept-version}
use Rattle.lasp_replica.specs.declared.replica.Replica.{Replica}
use Rattle.lasp_core.specs.Reads.{read_of}
use Rattle.lasp_core.specs.Lacking.{LacksAt, LacksValue, IsSparedAt, IsSpared, IsWaiting, WasWaiting, IsNews, AreNews, Spares}
use Rattle.lasp_core.specs.declared.news.News.{News}
use Rattle.lasp_core.specs.declared.read.ReadNo.{ReadNo}
use Rattle.lasp_core.proofs.ParkedLaws.{graph-length, state-shape, state-content}
use Rattle.lasp_replica.proofs.SettledLaws.{histories-many, history-found}
use Rattle.lasp_replica.proofs.UpdateLaws.{set-kind}
use Rattle.lasp_replica.specs.Kept.{Kept}
use Rattle.model_states.specs.Threshold.{set, is_shape}
use Rattle.lasp_state.specs.State.{shape_of}
use Rattle.lasp_state.specs.declared.state.State.{State}
use Rattle.std.proofs.lemmas.List.{take-append-drop}
use Rattle.model_journal.specs.Clean.{version}
use Rattle.model_journal.proofs.JournalLaws.{journal-later}
use Rattle.model_core.proofs.ReadLaws.{meets-grows}
use Rattle.model_core.proofs.ValidLaws.{val-ordered, was-ordered}
use Rattle.lasp_replica.specs.History.{History, version_before, rows_before}

-- ---- a pass that puts one element after the other in place

front-set : {A : Type 0} (P : A → Type 0) (xs : List A) (i : ℕ) (y : A) → AllByRecursion P (take i xs) → P y → AllByRecursion P (take (suc i) (slice_set xs i y))
front-set P [] i y h here = tt
front-set P (x ∷ xs) zero y h here = (here, tt)
front-set P (x ∷ xs) (suc i) y h here = (h.0, front-set P xs i y h.1 here)

behind-set : {A : Type 0} (P : A → Type 0) (xs : List A) (i : ℕ) (y : A) → AllByRecursion P (drop i xs) → AllByRecursion P (drop (suc i) (slice_set xs i y))
behind-set P [] i y h = tt
behind-set P (x ∷ xs) zero y h = h.1
behind-set P (x ∷ xs) (suc i) y h = behind-set P xs i y h

next : (i : ℕ) → suc i ≡ i + 1
next i = omega arith

pub each-front : {A : Type 0} (P : A → Type 0) (xs : List A) (i : ℕ) (y : A) → AllByRecursion P (take i xs) → P y → AllByRecursion P (take (i + 1) (slice_set xs i y))
each-front P xs i y h here = subst (λ (n : ℕ). AllByRecursion P (take n (slice_set xs i y))) (next i) (front-set P xs i y h here)

pub each-behind : {A : Type 0} (P : A → Type 0) (xs : List A) (i : ℕ) (y : A) → AllByRecursion P (drop i xs) → AllByRecursion P (drop (i + 1) (slice_set xs i y))
each-behind P xs i y h = subst (λ (n : ℕ). AllByRecursion P (drop n (slice_set xs i y))) (next i) (behind-set P xs i y h)

-- ---- at once

nothing-at : (i : ℕ) (v : Val) → slice_get {X = Val} [] i ≡ Some v → ⊥
nothing-at zero v e = cc
nothing-at (suc i) v e = cc

neither : (b : Bool) → (b && false) ≡ false
neither true = refl
neither false = refl

-- where one fails, not all pass
place-fails : (p : Val → Bool) (vs : List Val) (i : ℕ) (v : Val) → slice_get vs i ≡ Some v → p v ≡ false → list_all p vs ≡ false
place-fails p [] i v at fails = absurd (nothing-at i v at)
place-fails p (x ∷ vs) zero v at fails = ap (λ (z : Val). p z && list_all p vs) (let is : x ≡ v = cc in is) ∙ ap (λ (b : Bool). b && list_all p vs) fails
place-fails p (x ∷ vs) (suc i) v at fails = ap (λ (b : Bool). p x && b) (place-fails p vs i v at fails) ∙ neither (p x)

lacking-fails : (dead : Bool) (s : Content) (vs : List Val) (place : ℕ) → LacksAt dead s vs place → list_all (is_in dead s) vs ≡ false
lacking-fails dead s vs place is = place-fails (is_in dead s) vs place is.value is.at is.lacks

pub lacking-unmet : (t : Threshold) (s : Content) (place : ℕ) → LacksValue t s place → meets t s ≡ false
lacking-unmet (AtLeast shape b) s place is = absurd is
lacking-unmet (Above shape b) s place is = absurd is
lacking-unmet (Count k) s place is = absurd is
lacking-unmet (Added vs) s place is = lacking-fails false s vs place is
lacking-unmet (Removed vs) s place is = lacking-fails true s vs place is

-- ---- later

untrue : (b : Bool) → (IsTrue b → ⊥) → b ≡ false
untrue true f = absurd (f refl)
untrue false f = refl

same-value : (vs : List Val) (place : ℕ) (v w : Val) → slice_get vs place ≡ Some v → slice_get vs place ≡ Some w → v ≡ w
same-value vs place v w at there = let one : Some v ≡ Some w = sym at ∙ there in cc

-- a value with a row was added, or removed where that is dead
row-in : (s : Content) (v : Val) (dead : Bool) → HasRowOf s.rows v dead → IsTrue (is_in dead s v)
row-in s v false has = and-left (is_added s v) true ((added-words (v ∷ []) s).1 (λ w is. subst (λ (z : Val). ((t : Tok) × HasRow s.rows z t) ⊎ IsHeld s.values z) (sym ((insert-value v least 0 0 w).0 is)) (inl has)))
row-in s v true has = and-left (is_removed s v) true ((removed-words (v ∷ []) s).1 (λ w is. subst (λ (z : Val). (t : Tok) × IsDeadIn s.rows z t) (sym ((insert-value v least 0 0 w).0 is)) has))

-- in a set the other way round
in-row : (s : Content) (v : Val) (dead : Bool) → s ≡ of_set s.rows → IsTrue (is_in dead s v) → HasRowOf s.rows v dead
in-row s v false flat is = row ((added-words (v ∷ []) s).0 (and-both (is_added s v) true is refl) v ((insert-value v least 0 0 v).1 refl)) where
  row : ((t : Tok) × HasRow s.rows v t) ⊎ IsHeld s.values v → (t : Tok) × HasRow s.rows v t
  row (inl there) = there
  row (inr held) = absurd (let none : IsHeld [] v = subst (λ (c : Content). IsHeld c.values v) flat held in omega (arith, none))
in-row s v true flat is = (removed-words (v ∷ []) s).0 (and-both (is_removed s v) true is refl) v ((insert-value v least 0 0 v).1 refl)

-- where a look-up finds no row, the set lacks the value
pub set-lacks : (b dead : Bool) (rows : List Row) (v : Val) → (IsTrue b ↔ HasRowOf rows v dead) → IsTrue (not b) → is_in dead (of_set rows) v ≡ false
set-lacks true dead rows v found lacking = absurd (let wrong : false ≡ true = lacking in cc)
set-lacks false dead rows v found lacking = untrue (is_in dead (of_set rows) v) (λ is. (let wrong : false ≡ true = found.1 (in-row (of_set rows) v dead refl is) in cc))

-- where no row is of a value, the value has none
none-row : (v : Val) (rows : List Row) → list_any (is_row_of v false) rows ≡ list_any (is_of v) rows
none-row v [] = refl
none-row v (r ∷ rows) = λ i. both (is_of v r) r.1 i || none-row v rows i where
  both : (b dead : Bool) → (b && (dead || true)) ≡ b
  both true true = refl
  both true false = refl
  both false dead = refl

pub none-of : (b : Bool) (v : Val) (rows : List Row) → b ≡ list_any (is_of v) rows → IsTrue (not b) → HasRowOf rows v false → ⊥
none-of true v rows is none has = (let wrong : false ≡ true = none in cc)
none-of false v rows is none has = (let wrong : true ≡ false = sym ((any-words v false rows).1 has) ∙ none-row v rows ∙ sym is in cc)

-- one set came to be another one by rows of which none is of a value
module _ (s t : Content) (news : List Row) (joined : join s.rows news ≡ t.rows) (flat : t ≡ of_set t.rows) where
  unmarked : (v : Val) → (HasRowOf news v false → ⊥) → (w : Tok) → mark t.rows v w ≡ mark s.rows v w
  unmarked v none w =
      let both : mark t.rows v w ≡ max (mark s.rows v w) (mark news v w) = ap (λ (rows : List Row). mark rows v w) (sym joined) ∙ mark-join s.rows news v w in
      let zero : mark news v w ≤ 0 = omega (arith, λ (some : 0 < mark news v w). none (w, some)) in
      omega (arith, both, zero)

  had : (v : Val) (dead : Bool) → (HasRowOf news v false → ⊥) → HasRowOf t.rows v dead → HasRowOf s.rows v dead
  had v false none row = (row.0, omega (arith, row.1, unmarked v none row.0))
  had v true none row = (row.0, omega (arith, row.1, unmarked v none row.0))

  lacks-at : (dead : Bool) (vs : List Val) (place : ℕ) → IsSparedAt vs news place → LacksAt dead s vs place → LacksAt dead t vs place
  lacks-at dead vs place spared it = record {
    value = it.value;
    at = it.at;
    lacks = untrue (is_in dead t it.value) (λ h. (
        let same : spared.value ≡ it.value = same-value vs place spared.value it.value spared.at it.at in
        let none : HasRowOf news it.value false → ⊥ = subst (λ (v : Val). HasRowOf news v false → ⊥) same spared.spared in
        let wrong : true ≡ false = sym (row-in s it.value dead (had it.value dead none (in-row t it.value dead flat h))) ∙ it.lacks in cc
        ));
  }

  pub lacks-later : (w : Threshold) (place : ℕ) → IsSpared w news place → LacksValue w s place → LacksValue w t place
  lacks-later (AtLeast shape b) place spared it = absurd it
  lacks-later (Above shape b) place spared it = absurd it
  lacks-later (Count n) place spared it = absurd it
  lacks-later (Added vs) place spared it = lacks-at false vs place spared it
  lacks-later (Removed vs) place spared it = lacks-at true vs place spared it

-- what lacks a value, all that is at most the same lacks too
below-in : (dead : Bool) (v : Val) (s t : Content) → IsOrdered s → IsOrdered t → IsContentAtMost t s → IsTrue (is_in dead t v) → IsTrue (is_in dead s v)
below-in false v s t up_s up_t low is = and-left (is_added s v) true (meets-grows (Added (v ∷ [])) t s up_t up_s low (and-both (is_added t v) true is refl))
below-in true v s t up_s up_t low is = and-left (is_removed s v) true (meets-grows (Removed (v ∷ [])) t s up_t up_s low (and-both (is_removed t v) true is refl))

below-at : (dead : Bool) (s t : Content) (vs : List Val) (place : ℕ) → IsOrdered s → IsOrdered t → IsContentAtMost t s → LacksAt dead s vs place → LacksAt dead t vs place
below-at dead s t vs place up_s up_t low it = record {
  value = it.value;
  at = it.at;
  lacks = untrue (is_in dead t it.value) (λ h. (let wrong : true ≡ false = sym (below-in dead it.value s t up_s up_t low h) ∙ it.lacks in cc));
}

pub lacks-below : (w : Threshold) (s t : Content) (place : ℕ) → IsOrdered s → IsOrdered t → IsContentAtMost t s → LacksValue w s place → LacksValue w t place
lacks-below (AtLeast shape b) s t place up_s up_t low it = absurd it
lacks-below (Above shape b) s t place up_s up_t low it = absurd it
lacks-below (Count n) s t place up_s up_t low it = absurd it
lacks-below (Added vs) s t place up_s up_t low it = below-at false s t vs place up_s up_t low it
lacks-below (Removed vs) s t place up_s up_t low it = below-at true s t vs place up_s up_t low it

-- ---- reads

-- a read that is known to lack a value isn't met
pub waiting-unmet : (X : Frame) (entries : List Entry) (r : ReadNo) → IsWaiting X entries r → IsTrue r.is_lacking → is_met X entries (read_of r) ≡ false
waiting-unmet X entries r waits lacking = lacking-unmet (read_of r).threshold (val X entries (read_of r).var) r.place (waits lacking)

-- what a variable lacks whose content is the same
pub waiting-still : (X Y : Frame) (h k : List Entry) (r : ReadNo) → val X h (read_of r).var ≡ val Y k (read_of r).var → IsWaiting X h r → IsWaiting Y k r
waiting-still X Y h k r same waits lacking = subst (λ (s : Content). LacksValue (read_of r).threshold s r.place) same (waits lacking)

-- what a variable lacks of which no row came
pub waiting-spared : (r : Replica) → IsReplica r → (n : ℕ) → n ≤ length (entries_of r) → (news : News) → AreNews r n news → (read : ReadNo) → WasWaiting r n read → Spares news read → IsWaiting (frame_of r) (entries_of r) read
waiting-spared r is n within news are read was spares lacking =
    let x = news.var in
    let X = frame_of r in
    let h = entries_of r in
    let flat : IsTrue (is_set (kind_at (parts_of r).graph x)) = subst (λ (g : List Decl). IsTrue (is_set (kind_at g x))) (sym is.kept.graph) are.set in
    let changed : HasChanged (val X (take n h) x) (held_at (parts_of r).states x).content (rows_since (history_at (parts_of r).histories x) n) =
    kept-changed X h (parts_of r) is.kept x (omega (arith, are.declared, graph-length r is)) flat n within in
    let joined : join (val X (take n h) x).rows news.rows.items ≡ (val X h x).rows =
    ap (λ (rows : List Row). join (val X (take n h) x).rows rows) are.rows_are ∙ changed.change.joined ∙ ap (λ (s : Content). s.rows) (held-val X h (parts_of r) is.kept x) in
    let before : LacksValue (read_of read).threshold (val X (take n h) x) read.place = subst (λ (y : ℕ). LacksValue (read_of read).threshold (val X (take n h) y) read.place) (sym spares.var) (was.waits lacking) in
    subst (λ (y : ℕ). LacksValue (read_of read).threshold (val X h y) read.place) spares.var
    (lacks-later (val X (take n h) x) (val X h x) news.rows.items joined are.flat (read_of read).threshold read.place spares.spared before)

-- what a variable lacks that didn't grow
pub waiting-kept : (r : Replica) → IsReplica r → (n : ℕ) → n ≤ length (entries_of r) → (read : ReadNo) → WasWaiting r n read
    → version_before (growths_at r (read_of read).var) n ≡ length (growths_at r (read_of read).var) → IsWaiting (frame_of r) (entries_of r) read
waiting-kept r is n within read was still lacking =
    let x = (read_of read).var in
    let X = frame_of r in
    let h = entries_of r in
    let there : x < length (parts_of r).graph = omega (arith, was.declared, graph-length r is) in
    let parts : take n h ++ drop n h ≡ h = take-append-drop n h in
    let version_same : version X (take n h) x ≡ version X h x = (is.kept.histories x there).versions n within ∙ still ∙ sym (kept-version X h (parts_of r) is.kept x there) in
    let low : IsContentAtMost (val X h x) (val X (take n h) x) =
    subst (λ (k : List Entry). IsContentAtMost (val X k x) (val X (take n h) x)) parts ((journal-later X (take n h) (drop n h)).same x (version_same ∙ ap (λ (k : List Entry). version X k x) (sym parts))) in
    lacks-below (read_of read).threshold (val X (take n h) x) (val X h x) read.place (was-ordered X h is.legal n x) (val-ordered X h is.legal x) low (was.waits lacking)

-- the rows that the history of a variable tells of a set
pub news-here : {E : Type 0} (r : Replica) → IsReplica r → (n x : ℕ) → x < length r.histories.items → (s : State) → slice_get r.states x ≡ Some (held_of s) → shape_of s ≡ set
    → (k : Kept) → k ≡ get_or r.histories.items x k → (told : Result (List Row) E) → IfOk told (λ rows. rows ≡ of_rows (drop (rows_before k.history.growths n) k.history.log)) → (rows : List Row) → told ≡ Ok rows → IsNews r n x rows
news-here r is n x there s at kind k kept (Err e) are rows ok = absurd cc
news-here r is n x there s at kind k kept (Ok own) are rows ok =
    let low : x < length (graph (frame_of r) (entries_of r)) = omega (arith, there, histories-many r is, graph-length r is) in
    let same : own ≡ rows = cc in
    record {
      declared = low;
      set = set-kind (frame_of r).nodes (kind_at (graph (frame_of r) (entries_of r)) x) ∙ ap (is_shape set) (sym (state-shape r is x low s at) ∙ kind);
      flat = sym (state-content r is x s at) ∙ set-flat s kind ∙ ap (λ (c : Content). of_set c.rows) (state-content r is x s at);
      rows_are = sym same ∙ are ∙ ap (λ (h : History). rows_since h n) (sym (history-found r x k there kept));
    }

-- the history of a declared variable tells whether the variable grew
pub still-found : (r : Replica) → IsReplica r → (n x : ℕ) → x < length (graph (frame_of r) (entries_of r)) → (k : Kept) → k ≡ get_or r.histories.items x k → version_before k.history.growths n ≡ length k.history.growths
    → version_before (growths_at r x) n ≡ length (growths_at r x)
still-found r is n x low k kept still =
    let there : x < length r.histories.items = omega (arith, low, histories-many r is, graph-length r is) in
    let found = history-found r x k there kept in
    subst (λ (h : History). version_before h.growths n ≡ length h.growths) (sym found) still
