-- What one more entry does to one part: the base of a process, the history of a variable, and the parts where no declaration came.
use Rattle.std.proofs.Common.{◌≡◌, ℕ, pos, zero, suc, ◌<◌, List, [], ◌∷◌, ◌++◌, length, slice_set, Option, Some, None, refl, sym, ap, subst, ◌∙◌, arith}
use Rattle.model_values.specs.Row.{Row}
use Rattle.model_sets.proofs.RowLaws as rows
use Rattle.model_states.specs.Threshold.{set}
use Rattle.model_states.specs.Content.{Content, least, join_contents, IsContentAtMost, at_row}
use Rattle.model_states.proofs.ContentLaws.{at_most-itself, at_most-chain, at_most-same, join-right, join-least}
use Rattle.model_graph.specs.Graph.{Decl, Kind, kind_at}
use Rattle.model_graph.specs.Evaluation.{content_at}
use Rattle.model_graph.specs.Lawful.{IsDerived, shape_of}
use Rattle.model_graph.proofs.PlaceLaws.{at-map}
use Rattle.model_journal.specs.Entry.{Entry, Frame}
use Rattle.model_journal.specs.Journal.{graph, vals, val, counts}
use Rattle.model_journal.specs.Clean.{base}
use Rattle.model_journal.specs.Legal.{IsLegal}
use Rattle.model_journal.proofs.PlaceLaws.{take-front}
use Rattle.model_journal.proofs.CleanLaws.{vals-length}
use Rattle.model_core.proofs.BaseLaws.{base-within}
use Rattle.model_core.proofs.ValidLaws.{val-ordered}
use Rattle.lasp_replica.specs.History.{History, grown, IsHistory}
use Rattle.lasp_replica.proofs.HistoryLaws.{history-rows, history-still, history-grown}
use Rattle.lasp_graph.specs.States.{Held, held_at, contents_of}
use Rattle.lasp_graph.specs.Evaluated.{number_by}
use Rattle.lasp_replica.specs.Parts.{Base, Parts, IsBase, IsBaseAt, base_at, history_at, news_of, AreRowsOf, IsKept}
use Rattle.lasp_replica.proofs.KindLaws.{AreNews, news-join}
use Rattle.lasp_graph.proofs.Evaluation.{length-contents}

-- ---- bases

-- what a process last read stays what it was
pub base-stays : (X : Frame) (h : List Entry) → IsLegal X h → (e : Entry) (k : Kind) (y : ℕ) (b : Option Base) → base X (h ++ e ∷ []) y ≡ base X h y → IsBaseAt X h k y b → IsBaseAt X (h ++ e ∷ []) k y b
base-stays X h legal e k y None same is = is
base-stays X h legal e k y (Some b) same is =
    (is.0, is.1 ∙ sym same, subst (λ (before : List Entry). IsBase k (vals X before) b) (sym (take-front h (e ∷ []) b.entries (omega (arith, is.1, base-within X h legal y)))) is.2)

-- ---- histories

-- after an entry that joined in more
pub history-joined : (X : Frame) (h : List Entry) (e : Entry) (x : ℕ) (hist : History) → IsHistory X h x hist → x < length (graph X h) → (c : Content) → val X (h ++ e ∷ []) x ≡ join_contents (val X h x) c
    → (IsContentAtMost c (val X h x) → ⊥) → (news : List Row) → AreRowsOf (news_of (shape_of X.nodes (kind_at (graph X h) x)) (val X h x) c) news → IsHistory X (h ++ e ∷ []) x (grown hist news (length h))
history-joined X h e x hist is low c joined more news of = history-grown X h x hist is e low
    (λ below. more (at_most-chain c (join_contents (val X h x) c) (val X h x) (join-right (val X h x) c) (subst (λ (s : Content). IsContentAtMost s (val X h x)) joined below)))
    news (λ set. all.rows set ∙ ap (λ (s : Content). s.rows) (sym joined)) all.rises where
      all : AreNews (kind_at (graph X h) x) hist.log news (val X h x) c
      all = news-join X.nodes (kind_at (graph X h) x) hist.log (val X h x) c news is.rises (λ set. sym (history-rows X h x hist is set)) of

-- after an entry that joined in no more
pub history-covered : (X : Frame) (h : List Entry) → IsLegal X h → (e : Entry) (x : ℕ) (hist : History) → IsHistory X h x hist → x < length (graph X h) → (c : Content) → val X (h ++ e ∷ []) x ≡ join_contents (val X h x) c
    → IsContentAtMost c (val X h x) → IsHistory X (h ++ e ∷ []) x hist
history-covered X h legal e x hist is low c joined covered = history-still X h x hist is e low
    (subst (λ (s : Content). IsContentAtMost s (val X h x)) (sym joined) (join-least (val X h x) c (val X h x) (at_most-itself (val X h x)) covered))
    (ap (λ (s : Content). s.rows) joined ∙ rows.join-at_most-right (val X h x).rows c.rows (val-ordered X h legal x).rows (λ v w. covered (at_row v w)))

-- after an entry that left the variable as it was
pub history-alike : (X : Frame) (h : List Entry) (e : Entry) (x : ℕ) (hist : History) → IsHistory X h x hist → x < length (graph X h) → val X (h ++ e ∷ []) x ≡ val X h x → IsHistory X (h ++ e ∷ []) x hist
history-alike X h e x hist is low same = history-still X h x hist is e low (at_most-same (val X (h ++ e ∷ []) x) (val X h x) same) (ap (λ (s : Content). s.rows) same)

-- ---- states

-- there is a state for each variable
pub states-long : (X : Frame) (h : List Entry) → IsLegal X h → (p : Parts) → IsKept X h p → length p.states ≡ length p.graph
states-long X h legal p is =
    let contents : length (contents_of p.states) ≡ length (vals X h) = ap (λ (ss : List Content). length ss) is.contents in
    let graphs : length p.graph ≡ length (graph X h) = ap (λ (g : List Decl). length g) is.graph in
    omega (arith, contents, graphs, length-contents p.states, vals-length X h legal)

-- what a state holds is what its variable does
pub held-val : (X : Frame) (h : List Entry) (p : Parts) → IsKept X h p → (x : ℕ) → (held_at p.states x).content ≡ val X h x
held-val X h p is x = sym (at-map (λ (s : Held). s.content) p.states x (record { shape = set; content = least; number = pos 0 })) ∙ ap (λ (ss : List Content). content_at ss x) is.contents

pub contents-set : (states : List Held) (y : ℕ) (s : Held) → contents_of (slice_set states y s) ≡ slice_set (contents_of states) y s.content
contents-set [] y s = refl
contents-set (r ∷ states) zero s = refl
contents-set (r ∷ states) (suc y) s = ap (λ (rest : List Content). r.content ∷ rest) (contents-set states y s)

-- ---- the parts after an entry that is no declaration

pub kept-step : (X : Frame) (h : List Entry) → IsLegal X h → (e : Entry) (p : Parts) → IsKept X h p → (q : Parts)
    → graph X (h ++ e ∷ []) ≡ graph X h → ((y : ℕ) → y < length p.graph → base X (h ++ e ∷ []) y ≡ base X h y)
    → q.graph ≡ p.graph → q.bases ≡ p.bases → q.counts ≡ counts X (h ++ e ∷ []) → contents_of q.states ≡ vals X (h ++ e ∷ [])
    → ((x : ℕ) → x < length p.graph → (held_at q.states x).shape ≡ (held_at p.states x).shape)
    → ((y : ℕ) → IsDerived p.graph y → held_at q.states y ≡ held_at p.states y)
    → length q.histories ≡ length p.histories
    → ((x : ℕ) → x < length p.graph → IsHistory X (h ++ e ∷ []) x (history_at q.histories x)) → IsKept X (h ++ e ∷ []) q
kept-step X h legal e p is q still based same bases counted contents shapes derived many histories = record {
  graph = same ∙ is.graph ∙ sym still;
  counts = counted;
  contents = contents;
  shapes = subst (λ (g : List Decl). (x : ℕ) → x < length g → (held_at q.states x).shape ≡ shape_of X.nodes (kind_at g x)) (sym same) (λ x low. shapes x low ∙ is.shapes x low);
  numbers = subst (λ (g : List Decl). (y : ℕ) → IsDerived g y → (held_at q.states y).number ≡ number_by (kind_at g y) (held_at q.states y).content) (sym same)
      (λ y d. subst (λ (s : Held). s.number ≡ number_by (kind_at p.graph y) s.content) (sym (derived y d)) (is.numbers y d));
  histories_many = many ∙ is.histories_many ∙ ap (λ (g : List Decl). length g) (sym same);
  histories = subst (λ (g : List Decl). (x : ℕ) → x < length g → IsHistory X (h ++ e ∷ []) x (history_at q.histories x)) (sym same) histories;
  bases_many = ap (λ (bs : List (Option Base)). length bs) bases ∙ is.bases_many ∙ ap (λ (g : List Decl). length g) (sym same);
  bases = subst (λ (g : List Decl). (y : ℕ) → y < length g → IsBaseAt X (h ++ e ∷ []) (kind_at g y) y (base_at q.bases y)) (sym same)
      (subst (λ (bs : List (Option Base)). (y : ℕ) → y < length p.graph → IsBaseAt X (h ++ e ∷ []) (kind_at p.graph y) y (base_at bs y)) (sym bases)
      (λ y low. base-stays X h legal e (kind_at p.graph y) y (base_at p.bases y) (based y low) (is.bases y low)));
}
