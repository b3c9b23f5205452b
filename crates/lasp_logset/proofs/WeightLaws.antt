-- What rows weigh in any order: a set weighs at most what its changes do.
use Rattle.std.proofs.Common.{◌<◌, take, get_or, sym, ap, ◌∙◌, ◌≡◌, ℕ, ◌+◌, ◌≤◌, ◌||◌, List, [], ◌∷◌, ◌++◌, length, arith}
use Rattle.std.proofs.lemmas.List.{take_more}
use Rattle.std.specs.declared.cmp.Ordering.{Ordering}
use Rattle.std.specs.declared.cmp.Ordering.TheVariants.{Less, Equal, Greater}
use Rattle.std.specs.FinMap.Entries.{by_order}
use Rattle.model_values.specs.Row.{Row, key_cmp}
use Rattle.model_sets.specs.Rows.{put, of_rows}
use Rattle.lasp_logset.specs.Weights.{IsBounded, row_weight, rows_weight}

pub weight-append : (rows more : List Row) → rows_weight (rows ++ more) ≡ rows_weight rows + rows_weight more
weight-append [] more = omega arith
weight-append (r ∷ rows) more = omega (arith, weight-append rows more)

weight-put : (r : Row) (rows : List Row) → rows_weight (put r rows) ≤ row_weight r + rows_weight rows
weight-put r [] = omega arith
weight-put r (q ∷ rows) = choose (key_cmp r.0 q.0) (weight-put r rows) where
  choose : (o : Ordering) → rows_weight (put r rows) ≤ row_weight r + rows_weight rows → rows_weight (by_order o (r ∷ q ∷ rows) ((q.0, r.1 || q.1) ∷ rows) (q ∷ put r rows)) ≤ row_weight r + rows_weight (q ∷ rows)
  choose Less rest = omega arith
  choose Equal rest = omega arith
  choose Greater rest = omega (arith, rest)

pub weight-of_rows : (log : List Row) → rows_weight (of_rows log) ≤ rows_weight log
weight-of_rows [] = omega arith
weight-of_rows (r ∷ log) = omega (arith, weight-put r (of_rows log), weight-of_rows log)

-- a bound of the changes is one of the set
pub set_bounded : (log : List Row) (bound : ℕ) → IsBounded (rows_weight log) bound → IsBounded (rows_weight (of_rows log)) bound
set_bounded log bound h = omega (arith, weight-of_rows log, h)

-- a row more
pub push_bounded : (log : List Row) (r : Row) (after : List Row) (known more sum : ℕ) → after ≡ log ++ r ∷ [] → IsBounded (rows_weight log) known → IsBounded (row_weight r) more → IsBounded (known + more) sum → IsBounded (rows_weight after) sum
push_bounded log r after known more sum made h k s = omega (arith, ap rows_weight made, weight-append log (r ∷ []), h, k, s)

pub next_bounded : (rows : List Row) (i : ℕ) (r : Row) (known more sum : ℕ) → i < length rows → r ≡ get_or rows i r → IsBounded (rows_weight (take i rows)) known → IsBounded (row_weight r) more → IsBounded (known + more) sum
    → IsBounded (rows_weight (take (i + 1) rows)) sum
next_bounded rows i r known more sum h is k l s =
    push_bounded (take i rows) r (take (i + 1) rows) known more sum (take_more rows i r h ∙ ap (λ (q : Row). take i rows ++ q ∷ []) (sym is)) k l s
