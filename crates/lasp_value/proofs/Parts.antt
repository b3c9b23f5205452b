-- What an array stands for, by the number of its parts.
use Rattle.std.proofs.Common.{◌≡◌, ◌∙◌, ap, sym, refl, subst, ◌<◌, ◌≤◌, List, [], ◌∷◌, length, slice_index_or, Result, Ok, Err, Vec, Global, arith}
use Rattle.serde_json.specs.declared.value.Value.{Value, Array}
use Rattle.serde_json.specs.View.{view, items_view}
use Rattle.serde_json.proofs.Views.{view-Array}
use Rattle.model_values.specs.Value.{Val, pair}
use Rattle.model_values.specs.declared.value_why.ValueWhy.{ValueWhy}
use Rattle.model_values.specs.declared.value_why.ValueWhy.TheVariants as why
use Rattle.lasp_value.specs.declared.refused.ValueRefused.{ValueRefused}
use Rattle.lasp_value.specs.declared.value.Value.{Value as Laid}
use Rattle.lasp_value.specs.Value.{val_of}
use Rattle.model_values.specs.Json.{paired, written_value, written_pair}
use Rattle.lasp_value.specs.Json.{Gives}

-- the parts of an array, as a slice
pub record AreParts (j : Value) (s : List Value) : Type 0 where
  pub items : Vec Value Global
  pub array : j ≡ Array items
  pub slice : s ≡ items.items

written-parts : (j : Value) (s : List Value) → AreParts j s → written_value (view j) ≡ written_pair (items_view s)
written-parts j s p =
    ap (λ d. written_value (view d)) p.array ∙ ap written_value (view-Array p.items) ∙ ap (λ l. written_pair (items_view l)) (sym p.slice)

pair-none : (s : List Value) → length s < 1 → written_pair (items_view s) ≡ Err why.NotAValue
pair-none [] h = refl
pair-none (a ∷ s) h = absurd (omega (arith, h))

pair-one : (s : List Value) → 1 ≤ length s → length s < 2 → written_pair (items_view s) ≡ Err why.NotAValue
pair-one [] h k = absurd (omega (arith, h))
pair-one (a ∷ []) h k = refl
pair-one (a ∷ b ∷ s) h k = absurd (omega (arith, k))

pair-many : (s : List Value) → 3 ≤ length s → written_pair (items_view s) ≡ Err why.NotAValue
pair-many [] h = absurd (omega (arith, h))
pair-many (a ∷ []) h = absurd (omega (arith, h))
pair-many (a ∷ b ∷ []) h = absurd (omega (arith, h))
pair-many (a ∷ b ∷ c ∷ s) h = refl

pair-two : (s : List Value) (x y : Value) → 2 ≤ length s → length s < 3 → written_pair (items_view s) ≡ paired (written_value (view (slice_index_or s 0 x))) (written_value (view (slice_index_or s 1 y)))
pair-two [] x y h k = absurd (omega (arith, h))
pair-two (a ∷ []) x y h k = absurd (omega (arith, h))
pair-two (a ∷ b ∷ []) x y h k = refl
pair-two (a ∷ b ∷ c ∷ s) x y h k = absurd (omega (arith, k))

pub written-none : (j : Value) (s : List Value) → AreParts j s → length s < 1 → written_value (view j) ≡ Err why.NotAValue
written-none j s p h = written-parts j s p ∙ pair-none s h

pub written-one : (j : Value) (s : List Value) → AreParts j s → 1 ≤ length s → length s < 2 → written_value (view j) ≡ Err why.NotAValue
written-one j s p h k = written-parts j s p ∙ pair-one s h k

pub written-many : (j : Value) (s : List Value) → AreParts j s → 3 ≤ length s → written_value (view j) ≡ Err why.NotAValue
written-many j s p h = written-parts j s p ∙ pair-many s h

pub written-two : (j : Value) (s : List Value) (a b : Value) → AreParts j s → 2 ≤ length s → length s < 3 → a ≡ slice_index_or s 0 a → b ≡ slice_index_or s 1 b
    → written_value (view j) ≡ paired (written_value (view a)) (written_value (view b))
written-two j s a b p h k e f =
    written-parts j s p ∙ pair-two s a b h k ∙ ap (λ v. paired (written_value (view v)) (written_value (view (slice_index_or s 1 b)))) (sym e)
    ∙ ap (λ v. paired (written_value (view a)) (written_value (view v))) (sym f)

-- a pair of what was answered
pub paired-both : (x y : Result Laid ValueRefused) (u w a b : Laid) (r q : Result Val ValueWhy) → Gives x r → Gives y q → x ≡ Ok u → y ≡ Ok w → a ≡ u → b ≡ w
    → paired r q ≡ Ok (pair (val_of a) (val_of b))
paired-both x y u w a b r q g h e f k l =
    let first : r ≡ Ok (val_of a) = subst (λ z. Gives z r) e g ∙ ap (λ z. Ok (val_of z)) (sym k) in
    let second : q ≡ Ok (val_of b) = subst (λ z. Gives z q) f h ∙ ap (λ z. Ok (val_of z)) (sym l) in
    ap (λ z. paired z q) first ∙ ap (paired (Ok (val_of a))) second
