-- One step of a fold: what comes of a member is a member, and little larger.
use Rattle.std.proofs.Common.{◌≡◌, ℕ, ◌+◌, ◌*◌, ◌^◌, ◌≤◌, ℤ, Bool, if◌then◌else◌, IsTrue, FitsSigned, List, ◌∷◌, fold, length, sym, ap, subst, ◌∙◌, arith}
use mir.Syntax.{w64}
use Rattle.model_values.specs.Value.{Val}
use Rattle.model_functions.specs.Lift.{LiftOp, lifted}
use Rattle.lasp_setops.specs.Group.{IsSizedGroup}
use Rattle.lasp_setops.specs.Fold.{taken_lift}
use Rattle.lasp_setops.specs.Turns.{turned, IsAlong}

module _ {member : ℤ → Bool} {combined : ℤ → ℤ → ℤ} {unit : ℤ} {undone taken : ℤ → ℤ} {size : ℤ → ℕ} (g : IsSizedGroup member combined unit undone taken size) where
  pub lift-in : (n a : ℤ) → FitsSigned w64 n → a ≡ taken n → IsTrue (member a)
  lift-in n a fits is = subst (λ (z : ℤ). IsTrue (member z)) (sym is) (g.lifts n fits)

  pub lift-small : (n a : ℤ) → FitsSigned w64 n → a ≡ taken n → size a ≤ 2 ^ 63
  lift-small n a fits is = subst (λ (z : ℤ). size z ≤ 2 ^ 63) (sym is) (g.size_taken n fits)

  pub undone-in : (a b : ℤ) → IsTrue (member a) → b ≡ undone a → IsTrue (member b)
  undone-in a b h is = subst (λ (z : ℤ). IsTrue (member z)) (sym is) (g.group.inverse_in a h)

  pub undone-small : (m : ℕ) (a b : ℤ) → size a ≤ m → b ≡ undone a → size b ≤ m
  undone-small m a b h is = omega (arith, ap size is, g.size_undone a, h)

  pub combined-in : (a b c : ℤ) → IsTrue (member a) → IsTrue (member b) → c ≡ combined a b → IsTrue (member c)
  combined-in a b c p q is = subst (λ (z : ℤ). IsTrue (member z)) (sym is) (g.group.op_in a b p q)

  pub combined-small : (m : ℕ) (a b c : ℤ) → size b ≤ m → c ≡ combined a b → size c ≤ size a + m
  combined-small m a b c h is = omega (arith, ap size is, g.size_combined a b, h)

-- ---- along the values that are left

pub along-start : (member : ℤ → Bool) (size : ℤ → ℕ) (step : ℤ → Val × Bool → ℤ) (total whole : ℤ) (left all : List (Val × Bool)) (bound : ℕ) → left ≡ all → fold step total all ≡ whole → length all ≤ bound → IsTrue (member total) → size total + 2 ^ 63 * bound ≤ 2 ^ 99
    → IsAlong member size step total left whole
along-start member size step total whole left all bound same gives few member_it small = record {
  in_group = member_it;
  small = let long = ap length same in omega (arith, long, few, small);
  rest = ap (λ (ts : List (Val × Bool)). fold step total ts) same ∙ gives;
}

pub along-next : (member : ℤ → Bool) (size : ℤ → ℕ) (step : ℤ → Val × Bool → ℤ) (total next whole : ℤ) (left rest : List (Val × Bool)) (t : Val × Bool) → IsAlong member size step total left whole → left ≡ t ∷ rest → next ≡ step total t → IsTrue (member next) → size next ≤ size total + 2 ^ 63
    → IsAlong member size step next rest whole
along-next member size step total next whole left rest t h at is member_it small = record {
  in_group = member_it;
  small = let long = ap length at in omega (arith, long, small, h.small);
  rest = ap (λ (n : ℤ). fold step n rest) is ∙ ap (λ (ts : List (Val × Bool)). fold step total ts) (sym at) ∙ h.rest;
}

pub step-is : (combined : ℤ → ℤ → ℤ) (undone taken : ℤ → ℤ) (op : LiftOp) (total n r : ℤ) (v : Val) (came : Bool) → n ≡ lifted op v
    → r ≡ (if came then combined total (taken n) else combined total (undone (taken n))) → r ≡ turned combined undone (taken_lift taken op) total (v, came)
step-is combined undone taken op total n r v came lift is = is ∙ ap (λ m. if came then combined total (taken m) else combined total (undone (taken m))) lift
