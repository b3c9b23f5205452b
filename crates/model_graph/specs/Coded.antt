-- Declarations as trees of numbers.
use Rattle.std.specs.Prelude.{◌≡◌, ℕ, List, [], ◌∷◌, if◌then◌else◌, ◌==◌, slice_index_or, refl}
use Rattle.std.specs.Coded.{Coded, code_by, coded×, coded_ℕ, coded_list}
use Rattle.model_functions.specs.Coded.{coded_map_ops, coded_pred_ops}
use Rattle.model_functions.specs.Map.{MapOp}
use Rattle.model_functions.specs.Predicate.{PredOp}
use Rattle.model_functions.specs.Lift.{LiftOp, One, Itself, Length, First}
use Rattle.model_graph.specs.Graph.{FoldOp, Sum, Xor, Modulo, Kind, OrSet, GSet, Counter, MaxReg, Union, Product, Intersection, Map, Filter, Fold, Decl}

abbrev pub lift_number : LiftOp → ℕ
lift_number One = 0
lift_number Itself = 1
lift_number Length = 2
lift_number First = 3

abbrev pub lift_from : ℕ → LiftOp
lift_from n = if n == 0 then One else (if n == 1 then Itself else (if n == 2 then Length else First))

lift_from-number : (lift : LiftOp) → lift_from (lift_number lift) ≡ lift
lift_from-number One = refl
lift_from-number Itself = refl
lift_from-number Length = refl
lift_from-number First = refl

abbrev pub fold_numbers : FoldOp → ℕ × ℕ
fold_numbers Sum = (0, 0)
fold_numbers Xor = (1, 0)
fold_numbers (Modulo n) = (2, n)

abbrev pub fold_from : ℕ × ℕ → FoldOp
fold_from p = if p.0 == 0 then Sum else (if p.0 == 1 then Xor else Modulo p.1)

fold_from-numbers : (op : FoldOp) → fold_from (fold_numbers op) ≡ op
fold_from-numbers Sum = refl
fold_from-numbers Xor = refl
fold_from-numbers (Modulo n) = refl

-- a kind's place among the kinds with its numbers, and the operations that it may have
abbrev pub Parts : Type 0
Parts = List ℕ × (List MapOp × List PredOp)

abbrev pub kind_parts : Kind → Parts
kind_parts OrSet = (0 ∷ [], ([], []))
kind_parts GSet = (1 ∷ [], ([], []))
kind_parts Counter = (2 ∷ [], ([], []))
kind_parts MaxReg = (3 ∷ [], ([], []))
kind_parts (Union x y) = (4 ∷ x ∷ y ∷ [], ([], []))
kind_parts (Product x y) = (5 ∷ x ∷ y ∷ [], ([], []))
kind_parts (Intersection x y) = (6 ∷ x ∷ y ∷ [], ([], []))
kind_parts (Map x place ops) = (7 ∷ x ∷ place ∷ [], (ops, []))
kind_parts (Filter x place ops) = (8 ∷ x ∷ place ∷ [], ([], ops))
kind_parts (Fold x op place lift) = (9 ∷ x ∷ place ∷ (fold_numbers op).0 ∷ (fold_numbers op).1 ∷ lift_number lift ∷ [], ([], []))

-- the number at a place
abbrev pub part : Parts → ℕ → ℕ
part p i = slice_index_or p.0 i 0

abbrev pub kind_from : Parts → Kind
kind_from p =
    if part p 0 == 0 then OrSet else
    if part p 0 == 1 then GSet else
    if part p 0 == 2 then Counter else
    if part p 0 == 3 then MaxReg else
    if part p 0 == 4 then Union (part p 1) (part p 2) else
    if part p 0 == 5 then Product (part p 1) (part p 2) else
    if part p 0 == 6 then Intersection (part p 1) (part p 2) else
    if part p 0 == 7 then Map (part p 1) (part p 2) p.1.0 else
    if part p 0 == 8 then Filter (part p 1) (part p 2) p.1.1 else
    Fold (part p 1) (fold_from (part p 3, part p 4)) (part p 2) (lift_from (part p 5))

pub kind_from-parts : (k : Kind) → kind_from (kind_parts k) ≡ k
kind_from-parts OrSet = refl
kind_from-parts GSet = refl
kind_from-parts Counter = refl
kind_from-parts MaxReg = refl
kind_from-parts (Union x y) = refl
kind_from-parts (Product x y) = refl
kind_from-parts (Intersection x y) = refl
kind_from-parts (Map x place ops) = refl
kind_from-parts (Filter x place ops) = refl
kind_from-parts (Fold x op place lift) = λ i. Fold x (fold_from-numbers op i) place (lift_from-number lift i)

abbrev pub coded_kind : Coded Kind
coded_kind = code_by Parts (coded× (coded_list coded_ℕ) (coded× coded_map_ops coded_pred_ops)) kind_parts kind_from kind_from-parts

abbrev pub coded_decls : Coded (List Decl)
coded_decls = coded_list (code_by (List ℕ × Kind) (coded× (coded_list coded_ℕ) coded_kind) (λ d. (d.name, d.kind)) (λ p. record { name = p.0; kind = p.1 }) (λ _. refl))
