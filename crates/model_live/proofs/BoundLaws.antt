-- Below what all updates come to together nothing is too large.
use Rattle.std.proofs.Common.{◌≡◌, ℕ, ◌+◌, ◌<◌, ◌≤◌, ◌⊎◌, inl, inr, IsTrue, List, length, Option, Some, None, refl, sym, subst, arith, Bool, true, false, if◌then◌else◌}
use Rattle.model_states.specs.Content.{Content, least, IsOrdered, IsContentAtMost, size_of, row_limit}
use Rattle.model_states.proofs.ContentLaws.{join-least, ordered-join}
use Rattle.model_states.proofs.SizeLaws.{size-grows}
use Rattle.model_graph.specs.Evaluation.{content_at, eval, first_large}
use Rattle.model_graph.specs.Graph.{Decl, is_source, kind_at}
use Rattle.model_graph.specs.Lawful.{IsGraph}
use Rattle.model_graph.specs.Limit.{AreWithinLimit}
use Rattle.model_graph.proofs.EvalLaws.{eval-given, eval-monotone, eval-ordered}
use Rattle.model_graph.proofs.LimitLaws.{small-words}
use Rattle.model_graph.proofs.PlaceLaws.{at-past, below-or-not}
use Rattle.model_graph.specs.Message.{Message, brought, gained, with_gain, sent_at, source_number}
use Rattle.model_graph.proofs.MessageLaws.{gained-length, gained-at}
use Rattle.model_world.specs.Command.{Script}
use Rattle.model_live.specs.Letter.{IsLetter}
use Rattle.model_live.specs.Together.{full, too_large, AreWithin}

module _ (g : List Decl) (script : Script) where
  -- what all updates come to, evaluated
  abbrev most : List Content
  most = eval g (full g script)

  -- where that leaves no variable too large, each of its variables is small
  most-small : too_large g script ≡ None → AreWithinLimit most
  most-small none = (small-words most).0 none

  -- a content that is ordered and below is small as well
  below-small : too_large g script ≡ None → (x : ℕ) → IsOrdered (content_at most x) → (s : Content) → IsOrdered s → IsContentAtMost s (content_at most x) → size_of s ≤ row_limit
  below-small none x whole s ordered at_most = let grows = size-grows s (content_at most x) ordered whole at_most in let small = most-small none x in omega (arith, grows, small)

  pub source-most : (x : ℕ) → x < length g → IsTrue (is_source (kind_at g x)) → content_at most x ≡ content_at (full g script) x
  source-most x low source = eval-given g (full g script) x low source

  -- what a letter brings is below
  brought-below : (m : Message) → IsLetter g script m → (x : ℕ) → x < length g → (s : Content) → IsContentAtMost s (content_at most x) → IsContentAtMost (with_gain s (brought g m x)) (content_at most x)
  brought-below m letter x low s at_most = choose (is_source (kind_at g x)) refl where
    gain : Bool → Option Content
    gain b = if b then Some (sent_at m.sources (source_number g x)) else None

    choose : (b : Bool) → is_source (kind_at g x) ≡ b → IsContentAtMost (with_gain s (gain (is_source (kind_at g x)))) (content_at most x)
    choose true source =
        subst (λ (b : Bool). IsContentAtMost (with_gain s (gain b)) (content_at most x)) (sym source)
        (join-least s (sent_at m.sources (source_number g x)) (content_at most x) at_most
        (subst (λ (t : Content). IsContentAtMost (sent_at m.sources (source_number g x)) t) (sym (source-most x low source)) (letter.below x low source)))
    choose false process = subst (λ (b : Bool). IsContentAtMost (with_gain s (gain b)) (content_at most x)) (sym process) at_most

  pub gained-below : (m : Message) → IsLetter g script m → (contents : List Content) → length contents ≡ length g → AreWithin g script contents → AreWithin g script (gained (brought g m) 0 contents)
  gained-below m letter contents size within x low =
      subst (λ (s : Content). IsContentAtMost s (content_at most x)) (sym (gained-at (brought g m) 0 contents x (omega (arith, low, size))))
      (subst (λ (n : ℕ). IsContentAtMost (with_gain (content_at contents x) (brought g m n)) (content_at most x)) (omega arith) (brought-below m letter x low (content_at contents x) (within x low)))

  -- joined in, it is ordered
  gained-ordered : (m : Message) (s : Content) (x : ℕ) → IsOrdered s → IsOrdered (with_gain s (brought g m x))
  gained-ordered m s x ordered = choose (is_source (kind_at g x)) where
    choose : (b : Bool) → IsOrdered (with_gain s (if b then Some (sent_at m.sources (source_number g x)) else None))
    choose true = ordered-join s (sent_at m.sources (source_number g x))
    choose false = ordered

  pub letter-small : too_large g script ≡ None → ((x : ℕ) → IsOrdered (content_at most x)) → (contents : List Content) → length contents ≡ length g → ((x : ℕ) → IsOrdered (content_at contents x)) → AreWithin g script contents
      → (m : Message) → IsLetter g script m → first_large 0 (gained (brought g m) 0 contents) ≡ None
  letter-small none whole contents size ordered within m letter = (small-words (gained (brought g m) 0 contents)).1 small where
    small : (x : ℕ) → size_of (content_at (gained (brought g m) 0 contents) x) ≤ row_limit
    small x = by (below-or-not x (length g)) where
      by : (x < length g) ⊎ (length g ≤ x) → size_of (content_at (gained (brought g m) 0 contents) x) ≤ row_limit
      by (inl low) =
          let at = gained-at (brought g m) 0 contents x (omega (arith, low, size)) in
          below-small none x (whole x) (content_at (gained (brought g m) 0 contents) x)
          (subst IsOrdered (sym at) (gained-ordered m (content_at contents x) (0 + x) (ordered x))) (gained-below m letter contents size within x low)
      by (inr high) = subst (λ (s : Content). size_of s ≤ row_limit) (sym (at-past (gained (brought g m) 0 contents) x least (omega (arith, high, size, gained-length (brought g m) 0 contents)))) (omega arith)

  pub settled-small : IsGraph g → too_large g script ≡ None → ((x : ℕ) → IsOrdered (content_at most x)) → (contents : List Content) → ((x : ℕ) → IsOrdered (content_at contents x)) → AreWithin g script contents → first_large 0 (eval g contents) ≡ None
  settled-small ok none whole contents ordered within = (small-words (eval g contents)).1 (λ x.
      below-small none x (whole x) (content_at (eval g contents) x) (eval-ordered g contents (λ y low source. ordered y) x)
      (eval-monotone g contents (full g script) ok (λ y low source. subst (λ (t : Content). IsContentAtMost (content_at contents y) t) (source-most y low source) (within y low)) x))
