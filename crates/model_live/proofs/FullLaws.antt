-- What all updates come to together is in order.
use Rattle.std.proofs.Common.{◌≡◌, ℕ, zero, suc, ◌+◌, ◌<◌, ◌≤◌, ◌&&◌, ◌⊎◌, inl, inr, Bool, List, [], ◌∷◌, length, map, Some, refl, sym, ap, subst, ◌∙◌, arith}
use Rattle.std.specs.List.{range_with_len}
use Rattle.std.specs.FinMap.Entries.{is_sorted, below_all}
use Rattle.std.specs.Ordering.{is_lt}
use Rattle.model_values.specs.Row.{Row, Key, key_cmp}
use Rattle.model_states.specs.Content.{Content, least, IsOrdered}
use Rattle.model_states.proofs.ContentLaws.{ordered-least, ordered-join}
use Rattle.model_graph.specs.Evaluation.{content_at, least_of, eval}
use Rattle.model_graph.specs.Graph.{Decl}
use Rattle.model_graph.proofs.EvalLaws.{eval-ordered}
use Rattle.model_graph.proofs.LeastLaws.{least_of-ordered}
use Rattle.model_graph.proofs.PlaceLaws.{at-past, below-or-not}
use Rattle.model_graph.proofs.MessageLaws.{gained-length, gained-at}
use Rattle.model_world.specs.Command.{Script}
use Rattle.model_live.specs.Together.{alone, joined, together, dead_row, all_dead, full}

-- rows stay in order where they die
below-dead : (k : Key) (s : List Row) → below_all key_cmp k (map dead_row s) ≡ below_all key_cmp k s
below-dead k [] = refl
below-dead k (r ∷ s) = ap (λ (b : Bool). is_lt (key_cmp k r.0) && b) (below-dead k s)

sorted-dead : (s : List Row) → is_sorted key_cmp (map dead_row s) ≡ is_sorted key_cmp s
sorted-dead [] = refl
sorted-dead (r ∷ s) = λ i. below-dead r.0 s i && sorted-dead s i

pub dead-ordered : (s : Content) → IsOrdered s → IsOrdered (all_dead s)
dead-ordered s h = record { rows = sorted-dead s.rows ∙ h.rows; values = h.values }

pub dead-at : (contents : List Content) (x : ℕ) → content_at (map all_dead contents) x ≡ all_dead (content_at contents x)
dead-at [] zero = refl
dead-at [] (suc x) = refl
dead-at (s ∷ contents) zero = refl
dead-at (s ∷ contents) (suc x) = dead-at contents x

pub fresh-ordered : (nodes : ℕ) (g : List Decl) (x : ℕ) → IsOrdered (content_at (map (λ (d : Decl). least_of nodes d.kind) g) x)
fresh-ordered nodes [] zero = ordered-least
fresh-ordered nodes [] (suc x) = ordered-least
fresh-ordered nodes (d ∷ g) zero = least_of-ordered nodes d.kind
fresh-ordered nodes (d ∷ g) (suc x) = fresh-ordered nodes g x

joined-ordered : (others contents : List Content) (x : ℕ) → IsOrdered (content_at (joined others contents) x)
joined-ordered others contents x = by (below-or-not x (length contents)) where
  by : (x < length contents) ⊎ (length contents ≤ x) → IsOrdered (content_at (joined others contents) x)
  by (inl low) = subst IsOrdered (sym (gained-at (λ y. Some (content_at others y)) 0 contents x low)) (ordered-join (content_at contents x) (content_at others (0 + x)))
  by (inr high) = subst IsOrdered (sym (at-past (joined others contents) x least (omega (arith, high, gained-length (λ y. Some (content_at others y)) 0 contents)))) ordered-least

together-ordered : (g : List Decl) (script : Script) (ps : List ℕ) (x : ℕ) → IsOrdered (content_at (together g script ps) x)
unfolding together
together-ordered g script [] x = fresh-ordered script.nodes g x
together-ordered g script (p ∷ ps) x = joined-ordered (alone g script p).contents (together g script ps) x

pub full-ordered : (g : List Decl) (script : Script) (x : ℕ) → IsOrdered (content_at (eval g (full g script)) x)
full-ordered g script x =
    let all : List Content = together g script (range_with_len 0 script.nodes) in
    eval-ordered g (full g script) (λ y low source. subst IsOrdered (sym (dead-at all y)) (dead-ordered (content_at all y) (together-ordered g script (range_with_len 0 script.nodes) y))) x
