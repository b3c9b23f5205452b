-- Operations of stored functions as trees of numbers.
use Rattle.std.specs.Prelude.{◌≡◌, ℕ, ℤ, pos, List, [], if◌then◌else◌, ◌==◌, refl}
use Rattle.std.specs.Coded.{Coded, code_by, coded×, coded_ℕ, coded_ℤ, coded_list}
use Rattle.model_functions.specs.Map as map
use Rattle.model_functions.specs.Predicate as predicate

-- an operation of a map function as its place among them and its number
abbrev pub map_parts : map.MapOp → ℕ × ℤ
map_parts (map.Add k) = (0, k)
map_parts (map.Times k) = (1, k)
map_parts map.Neg = (2, pos 0)
map_parts map.Abs = (3, pos 0)
map_parts map.First = (4, pos 0)
map_parts map.Second = (5, pos 0)
map_parts map.Swap = (6, pos 0)
map_parts map.Length = (7, pos 0)
map_parts map.Lower = (8, pos 0)

abbrev pub map_from : ℕ × ℤ → map.MapOp
map_from p =
    if p.0 == 0 then map.Add p.1 else
    if p.0 == 1 then map.Times p.1 else
    if p.0 == 2 then map.Neg else
    if p.0 == 3 then map.Abs else
    if p.0 == 4 then map.First else
    if p.0 == 5 then map.Second else
    if p.0 == 6 then map.Swap else
    if p.0 == 7 then map.Length else map.Lower

pub map_from-parts : (op : map.MapOp) → map_from (map_parts op) ≡ op
map_from-parts (map.Add k) = refl
map_from-parts (map.Times k) = refl
map_from-parts map.Neg = refl
map_from-parts map.Abs = refl
map_from-parts map.First = refl
map_from-parts map.Second = refl
map_from-parts map.Swap = refl
map_from-parts map.Length = refl
map_from-parts map.Lower = refl

abbrev pub coded_map_op : Coded map.MapOp
coded_map_op = code_by (ℕ × ℤ) (coded× coded_ℕ coded_ℤ) map_parts map_from map_from-parts

abbrev pub coded_map_ops : Coded (List map.MapOp)
coded_map_ops = coded_list coded_map_op

-- one of a predicate as its place among them, its number and its text
abbrev pub pred_parts : predicate.PredOp → ℕ × (ℤ × List ℕ)
pred_parts predicate.Even = (0, (pos 0, []))
pred_parts (predicate.Above k) = (1, (k, []))
pred_parts (predicate.Below k) = (2, (k, []))
pred_parts predicate.IsText = (3, (pos 0, []))
pred_parts (predicate.StartsWith t) = (4, (pos 0, t))
pred_parts predicate.KeyMatch = (5, (pos 0, []))
pred_parts predicate.Same = (6, (pos 0, []))

abbrev pub pred_from : ℕ × (ℤ × List ℕ) → predicate.PredOp
pred_from p =
    if p.0 == 0 then predicate.Even else
    if p.0 == 1 then predicate.Above p.1.0 else
    if p.0 == 2 then predicate.Below p.1.0 else
    if p.0 == 3 then predicate.IsText else
    if p.0 == 4 then predicate.StartsWith p.1.1 else
    if p.0 == 5 then predicate.KeyMatch else predicate.Same

pub pred_from-parts : (op : predicate.PredOp) → pred_from (pred_parts op) ≡ op
pred_from-parts predicate.Even = refl
pred_from-parts (predicate.Above k) = refl
pred_from-parts (predicate.Below k) = refl
pred_from-parts predicate.IsText = refl
pred_from-parts (predicate.StartsWith t) = refl
pred_from-parts predicate.KeyMatch = refl
pred_from-parts predicate.Same = refl

abbrev pub coded_pred_op : Coded predicate.PredOp
coded_pred_op = code_by (ℕ × (ℤ × List ℕ)) (coded× coded_ℕ (coded× coded_ℤ (coded_list coded_ℕ))) pred_parts pred_from pred_from-parts

abbrev pub coded_pred_ops : Coded (List predicate.PredOp)
coded_pred_ops = coded_list coded_pred_op
