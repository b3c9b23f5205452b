-- States as contents: the order, the join and growth of each kind are those of its part.
use Rattle.std.proofs.Common.{◌≡◌, ◌≢◌, ◌↔◌, ℕ, ◌≤◌, max, ℤ, Bool, IsTrue, List, [], ◌∷◌, length, Option, None, Some, Result, Ok, Err, IfOk, OnOk, refl, sym, ap, subst, ◌∙◌, arith}
use Rattle.model_values.specs.Row.{Row}
use Rattle.model_values.specs.Value.{Val}
use Rattle.model_sets.specs.Values.{IsWithin}
use Rattle.model_sets.specs.Rows.{IsAtMost}
use Rattle.model_states.specs.Counts as counts
use Rattle.model_states.specs.Register as register
use Rattle.model_states.specs.Content.{Content, of_set, of_grow, of_counts, of_top, join_contents, Key, at_row, at_value, at_count, at_top, content_mark, IsContentAtMost}
use Rattle.model_states.proofs.RegisterLaws.{not_later-reaches, reaches-not_later}
use Rattle.model_states.specs.Threshold.{Shape, counter}
use Rattle.lasp_state.specs.declared.register.MaxReg.{MaxReg}
use Rattle.lasp_state.specs.Counts.{larger, AreAtMost, HaveSameNodes}
use Rattle.model_states.specs.Register.{later, IsNotLater}

-- ---- the order

pub order-set : (s t : List Row) → IsAtMost s t ↔ IsContentAtMost (of_set s) (of_set t)
order-set s t = (there, λ h v w. h (at_row v w)) where
  there : IsAtMost s t → (k : Key) → content_mark (of_set s) k ≤ content_mark (of_set t) k
  there h (at_row v w) = h v w
  there h (at_value v) = omega arith
  there h (at_count node) = omega arith
  there h (at_top n) = omega arith

pub order-grow : (s t : List Val) → IsWithin s t ↔ IsContentAtMost (of_grow s) (of_grow t)
order-grow s t = (there, λ h v. h (at_value v)) where
  there : IsWithin s t → (k : Key) → content_mark (of_grow s) k ≤ content_mark (of_grow t) k
  there h (at_row v w) = omega arith
  there h (at_value v) = h v
  there h (at_count node) = omega arith
  there h (at_top n) = omega arith

pub order-counts : (s t : List ℕ) → AreAtMost s t ↔ IsContentAtMost (of_counts s) (of_counts t)
order-counts s t = (there, λ h node. h (at_count node)) where
  there : AreAtMost s t → (k : Key) → content_mark (of_counts s) k ≤ content_mark (of_counts t) k
  there h (at_row v w) = omega arith
  there h (at_value v) = omega arith
  there h (at_count node) = h node
  there h (at_top n) = omega arith

not_later-plain : (s t : Option ℤ) → IsNotLater s t ↔ register.IsNotLater s t
not_later-plain None t = (λ h. h, λ h. h)
not_later-plain (Some m) None = (λ h. h, λ h. h)
not_later-plain (Some m) (Some n) = (λ h. h, λ h. h)

pub order-top : (s t : Option ℤ) → IsNotLater s t ↔ IsContentAtMost (of_top s) (of_top t)
order-top s t = (λ h. there ((not_later-plain s t).0 h), λ h. (not_later-plain s t).1 (reaches-not_later s t (λ n. h (at_top n)))) where
  there : register.IsNotLater s t → (k : Key) → content_mark (of_top s) k ≤ content_mark (of_top t) k
  there h (at_row v w) = omega arith
  there h (at_value v) = omega arith
  there h (at_count node) = omega arith
  there h (at_top n) = not_later-reaches s t h n

-- a test of the order of parts tests the order of the contents that they are
pub order-as : (b : Bool) (P : Type 0) (small great s t : Content) → small ≡ s → great ≡ t → (P ↔ IsContentAtMost s t) → (IsTrue b ↔ P) → IsTrue b ↔ IsContentAtMost small great
order-as b P small great s t e f same test =
    subst (λ (c : Content). IsTrue b ↔ IsContentAtMost c great) (sym e)
    (subst (λ (d : Content). IsTrue b ↔ IsContentAtMost s d) (sym f) (λ h. same.0 (test.0 h), λ h. test.1 (same.1 h)))

-- ---- the join

pub larger-plain : (s t : List ℕ) → HaveSameNodes s t → larger s t ≡ counts.larger s t
larger-plain [] [] e = refl {a = []}
larger-plain [] (d ∷ t) e = absurd (omega (arith, e))
larger-plain (c ∷ s) [] e = refl
larger-plain (c ∷ s) (d ∷ t) e = ap (λ (l : List ℕ). max c d ∷ l) (larger-plain s t (omega (arith, e)))

later-plain : (s t : Option ℤ) → later s t ≡ register.later s t
later-plain None t = refl
later-plain (Some m) None = refl
later-plain (Some m) (Some n) = refl

pub join-counts : (s t : List ℕ) → HaveSameNodes s t → of_counts (larger s t) ≡ join_contents (of_counts s) (of_counts t)
join-counts s t e = ap of_counts (larger-plain s t e)

pub join-top : (s t : Option ℤ) → of_top (later s t) ≡ join_contents (of_top s) (of_top t)
join-top s t = ap of_top (later-plain s t)

-- ---- growth: contents of one kind differ exactly where their parts do

pub differ-sets : (s t : List Row) → (s ≢ t) ↔ (of_set s ≢ of_set t)
differ-sets s t = (λ h e. h (ap (λ (c : Content). c.rows) e), λ h e. h (ap of_set e))

pub differ-grow : (s t : List Val) → (s ≢ t) ↔ (of_grow s ≢ of_grow t)
differ-grow s t = (λ h e. h (ap (λ (c : Content). c.values) e), λ h e. h (ap of_grow e))

pub differ-counts : (s t : List ℕ) → (s ≢ t) ↔ (of_counts s ≢ of_counts t)
differ-counts s t = (λ h e. h (ap (λ (c : Content). c.counts) e), λ h e. h (ap of_counts e))

pub differ-registers : (s t : MaxReg) → (s ≢ t) ↔ (of_top s.value ≢ of_top t.value)
differ-registers s t = (λ h e. h (λ i. record { value = (e i).top }), λ h e. h (λ i. of_top (e i).value))

pub grew-as : (b : Bool) (P : Type 0) (new old s t : Content) → new ≡ s → old ≡ t → (P ↔ (s ≢ t)) → (IsTrue b ↔ P) → IsTrue b ↔ (new ≢ old)
grew-as b P new old s t e f same test =
    subst (λ (c : Content). IsTrue b ↔ (c ≢ old)) (sym e)
    (subst (λ (d : Content). IsTrue b ↔ (s ≢ d)) (sym f) (λ h. same.0 (test.0 h), λ h. test.1 (same.1 h)))

pub grew-result : {E : Type 0} (r : Result Bool E) (P : Type 0) (new old s t : Content) → new ≡ s → old ≡ t → (P ↔ (s ≢ t)) → IfOk r (λ grew. IsTrue grew ↔ P) → IfOk r (λ grew. IsTrue grew ↔ (new ≢ old))
grew-result (Ok grew) P new old s t e f same test = grew-as grew P new old s t e f same test
grew-result (Err error) P new old s t e f same test = tt

-- ---- results

pub on-ok : {E : Type 0} (r s : Result Bool E) (P Q : Type 0) → s ≡ r → (P → Q) → OnOk r P → OnOk s Q
on-ok r s P Q e f h = subst (λ (x : Result Bool _). OnOk x Q) (sym e) (there r P Q f h) where
  there : {E : Type 0} (r : Result Bool E) (P Q : Type 0) → (P → Q) → OnOk r P → OnOk r Q
  there (Ok b) P Q f h = f h
  there (Err error) P Q f h = tt

nodes_of : Shape → ℕ → ℕ
nodes_of (counter n) m = n
nodes_of _ m = m

-- counters of one shape have as many counts
pub same-nodes : (s t : List ℕ) (a b : Shape) → a ≡ b → a ≡ counter (length s) → b ≡ counter (length t) → HaveSameNodes s t
same-nodes s t a b h e f = let both : counter (length s) ≡ counter (length t) = sym e ∙ h ∙ f in cc

pub joined-as : (new old other n s t : Content) → new ≡ n → old ≡ s → other ≡ t → n ≡ join_contents s t → new ≡ join_contents old other
joined-as new old other n s t e f g h = e ∙ h ∙ sym (ap (λ (c : Content). join_contents c other) f ∙ ap (λ (c : Content). join_contents s c) g)
