-- A message that is made source by source, of a list of sources that are within the format.
use Rattle.std.proofs.Common.{◌≡◌, ℕ, ◌+◌, ◌≤◌, List, [], ◌∷◌, ◌++◌, length, drop, Some, refl, sym, ap, ◌∙◌, append-nil, arith}
use Rattle.std.specs.Prelude.{slice_get}
use Rattle.std.proofs.lemmas.List.{drop_all}
use Rattle.model_values.proofs.ListLaws.{each-push, drop-at}
use Rattle.model_graph.proofs.PlaceLaws.{length-append}
use Rattle.model_graph.specs.Message.{Sent, Message}
use Rattle.model_wire.specs.Lawful.{IsSent, IsMessage}
use Rattle.lasp_wire.specs.Sent.{message, with_source}

-- the first i sources are there
pub record IsBegun (counts : List ℕ) (all : List Sent) (i : ℕ) (m : Message) : Type 0 where
  pub counts_are : m.counts ≡ counts
  pub whole : m.sources ++ drop i all ≡ all

appended : (xs : List Sent) (y : Sent) (ys : List Sent) → (xs ++ y ∷ []) ++ ys ≡ xs ++ y ∷ ys
appended [] y ys = refl
appended (x ∷ xs) y ys = ap (λ (zs : List Sent). x ∷ zs) (appended xs y ys)

pub begun-nothing : (counts : List ℕ) (all : List Sent) → IsBegun counts all 0 (message counts [])
begun-nothing counts all = record { counts_are = refl; whole = refl }

pub begun-more : (counts : List ℕ) (all : List Sent) (i : ℕ) (m : Message) (s : Sent) → IsBegun counts all i m → slice_get all i ≡ Some s → IsBegun counts all (i + 1) (with_source m s)
begun-more counts all i m s h at = record {
  counts_are = h.counts_are;
  whole = appended m.sources s (drop (i + 1) all) ∙ ap (λ (rest : List Sent). m.sources ++ rest) (sym (drop-at all i s at)) ∙ h.whole;
}

pub begun-whole : (counts : List ℕ) (all : List Sent) (i : ℕ) (m : Message) → IsBegun counts all i m → length all ≤ i → m ≡ message counts all
begun-whole counts all i m h past = λ k. message (h.counts_are k) ((sym (append-nil m.sources) ∙ ap (λ (rest : List Sent). m.sources ++ rest) (sym (drop_all i all past)) ∙ h.whole) k)

pub begun-lawful : (counts : List ℕ) (all : List Sent) (i : ℕ) (m : Message) (s : Sent) → IsBegun counts all i m → slice_get all i ≡ Some s → length all ≤ 64 → IsMessage m → IsSent (length m.counts) s → IsMessage (with_source m s)
begun-lawful counts all i m s h at few lawful sent = record {
  nodes = lawful.nodes;
  counts = lawful.counts;
  few =
      let more = begun-more counts all i m s h at in
      omega (arith, few, ap (λ (l : List Sent). length l) more.whole, length-append (m.sources ++ s ∷ []) (drop (i + 1) all));
  sources = each-push (IsSent (length m.counts)) m.sources s lawful.sources sent;
}
