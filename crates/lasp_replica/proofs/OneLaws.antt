-- What a replica keeps where an entry changes one variable: an update, or a bind.
use Rattle.std.proofs.Common.{◌≡◌, ℕ, pos, ◌+◌, ◌≤◌, ◌<◌, ◌⊎◌, inl, inr, true, false, IsTrue, List, [], ◌∷◌, ◌++◌, length, take, slice_set, Option, Some, None, refl, sym, ap, subst, ◌∙◌, arith}
pub use Rattle.std.proofs.lemmas.Bool.{cases_eq as same-or-apart}
use Rattle.model_values.specs.Row.{Row}
use Rattle.model_states.specs.Counts.{count_at}
use Rattle.model_states.specs.Content.{Content, least, join_contents, IsContentAtMost}
use Rattle.model_states.specs.Threshold.{Shape, set}
use Rattle.model_states.specs.Update.{Op, delta}
use Rattle.model_graph.specs.Graph.{Decl, is_source, kind_at}
use Rattle.model_graph.specs.Evaluation.{content_at, equation}
use Rattle.model_graph.specs.Lawful.{IsDerived, shape_of}
use Rattle.model_graph.proofs.PlaceLaws.{at-set, set-length}
use Rattle.model_journal.specs.Entry.{Update, Bind, Entry, Frame}
use Rattle.model_journal.specs.Journal.{graph, vals, val, counts}
use Rattle.model_journal.specs.Clean.{base}
use Rattle.model_journal.specs.Legal.{IsLegal}
use Rattle.model_journal.proofs.PlaceLaws.{take-front}
use Rattle.model_journal.proofs.CleanLaws.{vals-length}
use Rattle.model_journal.proofs.EntryLaws.{update-vals, update-counts, bind-vals, bind-counts}
use Rattle.model_core.proofs.PeerLaws.{graph-updated, graph-bound}
use Rattle.model_core.proofs.BaseLaws.{base-updated, base-bind, base-apart, bind-later, bind-earlier}
use Rattle.lasp_replica.specs.History.{History, grown, no_history, IsHistory}
use Rattle.lasp_graph.specs.States as states
use Rattle.lasp_graph.specs.States.{Held, held_at, contents_of}
use Rattle.lasp_graph.specs.Evaluated.{number_by}
use Rattle.lasp_replica.specs.Parts.{Base, Parts, IsBase, IsBaseAt, base_at, history_at, news_of, AreRowsOf, IsKept}
use Rattle.lasp_replica.proofs.PartLaws.{base-stays, history-joined, history-covered, history-alike, states-long, held-val, contents-set, kept-step}

-- a declared variable is declared after the entries
pub declared-there : (X : Frame) (h : List Entry) (p : Parts) → IsKept X h p → (x : ℕ) → x < length p.graph → x < length (graph X h)
declared-there X h p is x low = subst (λ (g : List Decl). x < length g) is.graph low

-- one variable has another state, and what else is kept follows the entries
pub kept-one : (X : Frame) (h : List Entry) → IsLegal X h → (e : Entry) (p : Parts) → IsKept X h p → (y : ℕ) → y < length p.graph
    → (s : Held) (counted : List ℕ) (histories : List History) (bases : List (Option Base))
    → graph X (h ++ e ∷ []) ≡ graph X h → counted ≡ counts X (h ++ e ∷ []) → vals X (h ++ e ∷ []) ≡ slice_set (vals X h) y s.content
    → s.shape ≡ (held_at p.states y).shape → (IsDerived p.graph y → s.number ≡ number_by (kind_at p.graph y) s.content)
    → length histories ≡ length p.histories → IsHistory X (h ++ e ∷ []) y (history_at histories y)
    → ((x : ℕ) → x < length p.graph → (x ≡ y → ⊥) → history_at histories x ≡ history_at p.histories x)
    → length bases ≡ length p.bases → ((z : ℕ) → z < length p.graph → IsBaseAt X (h ++ e ∷ []) (kind_at p.graph z) z (base_at bases z))
    → IsKept X (h ++ e ∷ []) (record { graph = p.graph; counts = counted; states = slice_set p.states y s; histories = histories; bases = bases })
kept-one X h legal e p is y low s counted histories bases still count contents shape number many own others based basis = record {
  graph = is.graph ∙ sym still;
  counts = count;
  contents = contents-set p.states y s ∙ ap (λ (ss : List Content). slice_set ss y s.content) is.contents ∙ sym contents;
  shapes = λ x there. at-set (λ (t : Held). t.shape ≡ shape_of X.nodes (kind_at p.graph x)) p.states y s none x (omega (arith, there, long))
      (λ here. shape ∙ is.shapes y low ∙ ap (λ (i : ℕ). shape_of X.nodes (kind_at p.graph i)) (sym here)) (λ apart. is.shapes x there);
  numbers = λ z d. at-set (λ (t : Held). t.number ≡ number_by (kind_at p.graph z) t.content) p.states y s none z (omega (arith, d.declared, long))
      (λ here. subst (λ (i : ℕ). s.number ≡ number_by (kind_at p.graph i) s.content) (sym here) (number (subst (IsDerived p.graph) here d))) (λ apart. is.numbers z d);
  histories_many = many ∙ is.histories_many;
  histories = λ x there. history x there (same-or-apart x y);
  bases_many = based ∙ is.bases_many;
  bases = basis;
} where
  none : Held
  none = record { shape = set; content = least; number = pos 0 }

  long : length p.states ≡ length p.graph
  long = states-long X h legal p is

  same : (x : ℕ) → x < length p.graph → (x ≡ y → ⊥) → val X (h ++ e ∷ []) x ≡ val X h x
  same x there apart =
      ap (λ (ss : List Content). content_at ss x) contents
      ∙ at-set (λ (c : Content). c ≡ val X h x) (vals X h) y s.content least x (omega (arith, declared-there X h p is x there, vals-length X h legal)) (λ here. absurd (apart here)) (λ _. refl)

  history : (x : ℕ) → x < length p.graph → (x ≡ y) ⊎ (x ≡ y → ⊥) → IsHistory X (h ++ e ∷ []) x (history_at histories x)
  history x there (inl here) = subst (λ (i : ℕ). IsHistory X (h ++ e ∷ []) i (history_at histories i)) (sym here) own
  history x there (inr apart) = subst (IsHistory X (h ++ e ∷ []) x) (sym (others x there apart))
      (history-alike X h e x (history_at p.histories x) (is.histories x there) (declared-there X h p is x there) (same x there apart))

-- what one variable has after an entry that set it alone
set-own : (X : Frame) (h : List Entry) → IsLegal X h → (e : Entry) (y : ℕ) → y < length (graph X h) → (c : Content) → vals X (h ++ e ∷ []) ≡ slice_set (vals X h) y c → val X (h ++ e ∷ []) y ≡ c
set-own X h legal e y low c contents =
    ap (λ (ss : List Content). content_at ss y) contents
    ∙ at-set (λ (s : Content). s ≡ c) (vals X h) y c least y (omega (arith, low, vals-length X h legal)) (λ _. refl) (λ apart. absurd (apart refl))

-- ---- histories of one variable

history-set : (histories : List History) (y : ℕ) (new : History) → y < length histories → history_at (slice_set histories y new) y ≡ new
history-set histories y new low = at-set (λ (t : History). t ≡ new) histories y new no_history y low (λ _. refl) (λ apart. absurd (apart refl))

history-unset : (histories : List History) (y x : ℕ) (new : History) → x < length histories → (x ≡ y → ⊥) → history_at (slice_set histories y new) x ≡ history_at histories x
history-unset histories y x new low apart = at-set (λ (t : History). t ≡ history_at histories x) histories y new no_history x low (λ here. absurd (apart here)) (λ _. refl)

-- the history of what was joined in, in the words of what is kept
pub kept-joined : (X : Frame) (h : List Entry) (e : Entry) (p : Parts) → IsKept X h p → (x : ℕ) → x < length p.graph → (c : Content) → val X (h ++ e ∷ []) x ≡ join_contents (val X h x) c
    → (IsContentAtMost c (held_at p.states x).content → ⊥) → (news : List Row) → AreRowsOf (news_of (held_at p.states x).shape (held_at p.states x).content c) news
    → IsHistory X (h ++ e ∷ []) x (grown (history_at p.histories x) news (length h))
kept-joined X h e p is x low c joined more news of =
    let same : (held_at p.states x).content ≡ val X h x = held-val X h p is x in
    let shape : (held_at p.states x).shape ≡ shape_of X.nodes (kind_at (graph X h) x) = is.shapes x low ∙ ap (λ (g : List Decl). shape_of X.nodes (kind_at g x)) is.graph in
    let known : AreRowsOf (news_of (shape_of X.nodes (kind_at (graph X h) x)) (val X h x) c) news =
    subst (λ (s : Content). AreRowsOf (news_of (shape_of X.nodes (kind_at (graph X h) x)) s c) news) same
    (subst (λ (t : Shape). AreRowsOf (news_of t (held_at p.states x).content c) news) shape of) in
    history-joined X h e x (history_at p.histories x) (is.histories x low) (declared-there X h p is x low) c joined (λ below. more (subst (λ (s : Content). IsContentAtMost c s) (sym same) below)) news known

pub kept-covered : (X : Frame) (h : List Entry) → IsLegal X h → (e : Entry) (p : Parts) → IsKept X h p → (x : ℕ) → x < length p.graph → (c : Content) → val X (h ++ e ∷ []) x ≡ join_contents (val X h x) c
    → IsContentAtMost c (held_at p.states x).content → IsHistory X (h ++ e ∷ []) x (history_at p.histories x)
kept-covered X h legal e p is x low c joined covered = history-covered X h legal e x (history_at p.histories x) (is.histories x low) (declared-there X h p is x low) c joined
    (subst (λ (s : Content). IsContentAtMost c s) (held-val X h p is x) covered)

-- ---- updates

updated : (X : Frame) (h : List Entry) → IsLegal X h → (e : Entry) (y : ℕ) (op : Op) → e.act ≡ Update y op → (p : Parts) → IsKept X h p → y < length p.graph → IsTrue (is_source (kind_at p.graph y))
    → (d : Held) → join_contents (val X h y) d.content ≡ join_contents (val X h y) (delta op (val X h y) X.replica (count_at (counts X h) X.replica + 1)) → (histories : List History)
    → length histories ≡ length p.histories → IsHistory X (h ++ e ∷ []) y (history_at histories y)
    → ((x : ℕ) → x < length p.graph → (x ≡ y → ⊥) → history_at histories x ≡ history_at p.histories x)
    → IsKept X (h ++ e ∷ []) (record { graph = p.graph; counts = slice_set p.counts X.replica (count_at p.counts X.replica + 1); states = slice_set p.states y (states.grown (held_at p.states y) d); histories = histories; bases = p.bases })
updated X h legal e y op act p is low source d joins histories many own others =
    kept-one X h legal e p is y low (states.grown (held_at p.states y) d) (slice_set p.counts X.replica (count_at p.counts X.replica + 1)) histories p.bases
    (graph-updated X h e y op act)
    (ap (λ (cs : List ℕ). slice_set cs X.replica (count_at cs X.replica + 1)) is.counts ∙ sym (update-counts X h e y op act))
    (update-vals X h legal e y op act (declared-there X h p is y low) ∙ ap (slice_set (vals X h) y) (sym joins) ∙ ap (λ (c : Content). slice_set (vals X h) y (join_contents c d.content)) (sym (held-val X h p is y)))
    refl
    (λ derived. absurd (let both : true ≡ false = sym source ∙ derived.process in cc))
    many own others refl
    (λ z there. base-stays X h legal e (kind_at p.graph z) z (base_at p.bases z) (base-updated X h e y op z act) (is.bases z there))

updated-own : (X : Frame) (h : List Entry) → IsLegal X h → (e : Entry) (y : ℕ) (op : Op) → e.act ≡ Update y op → (p : Parts) → IsKept X h p → y < length p.graph
    → (d : Held) → join_contents (val X h y) d.content ≡ join_contents (val X h y) (delta op (val X h y) X.replica (count_at (counts X h) X.replica + 1)) → val X (h ++ e ∷ []) y ≡ join_contents (val X h y) d.content
updated-own X h legal e y op act p is low d joins =
    let there : y < length (graph X h) = declared-there X h p is y low in
    set-own X h legal e y there (join_contents (val X h y) d.content) (update-vals X h legal e y op act there ∙ ap (slice_set (vals X h) y) (sym joins))

-- an update by which its source doesn't grow
pub kept-updated-still : (X : Frame) (h : List Entry) → IsLegal X h → (e : Entry) (y : ℕ) (op : Op) → e.act ≡ Update y op → (p : Parts) → IsKept X h p → y < length p.graph → IsTrue (is_source (kind_at p.graph y))
    → (d : Held) → join_contents (val X h y) d.content ≡ join_contents (val X h y) (delta op (val X h y) X.replica (count_at (counts X h) X.replica + 1)) → IsContentAtMost d.content (held_at p.states y).content
    → IsKept X (h ++ e ∷ []) (record { graph = p.graph; counts = slice_set p.counts X.replica (count_at p.counts X.replica + 1); states = slice_set p.states y (states.grown (held_at p.states y) d); histories = p.histories; bases = p.bases })
kept-updated-still X h legal e y op act p is low source d joins covered =
    updated X h legal e y op act p is low source d joins p.histories refl (kept-covered X h legal e p is y low d.content (updated-own X h legal e y op act p is low d joins) covered) (λ x there apart. refl)

-- an update by which its source grows
pub kept-updated-grown : (X : Frame) (h : List Entry) → IsLegal X h → (e : Entry) (y : ℕ) (op : Op) → e.act ≡ Update y op → (p : Parts) → IsKept X h p → y < length p.graph → IsTrue (is_source (kind_at p.graph y))
    → (d : Held) → join_contents (val X h y) d.content ≡ join_contents (val X h y) (delta op (val X h y) X.replica (count_at (counts X h) X.replica + 1)) → (IsContentAtMost d.content (held_at p.states y).content → ⊥)
    → (news : List Row) → AreRowsOf (news_of (held_at p.states y).shape (held_at p.states y).content d.content) news
    → IsKept X (h ++ e ∷ []) (record {
      graph = p.graph;
      counts = slice_set p.counts X.replica (count_at p.counts X.replica + 1);
      states = slice_set p.states y (states.grown (held_at p.states y) d);
      histories = slice_set p.histories y (grown (history_at p.histories y) news (length h));
      bases = p.bases;
    })
kept-updated-grown X h legal e y op act p is low source d joins more news of =
    let new : History = grown (history_at p.histories y) news (length h) in
    updated X h legal e y op act p is low source d joins (slice_set p.histories y new) (set-length p.histories y new)
    (subst (IsHistory X (h ++ e ∷ []) y) (sym (history-set p.histories y new (omega (arith, low, is.histories_many))))
    (kept-joined X h e p is y low d.content (updated-own X h legal e y op act p is low d joins) more news of))
    (λ x there apart. history-unset p.histories y x new (omega (arith, there, is.histories_many)) apart)

-- ---- binds

-- a bind of what was read before the base
pub kept-bound-late : (X : Frame) (h : List Entry) → IsLegal X h → (e : Entry) (y n : ℕ) → e.act ≡ Bind y n → (p : Parts) → IsKept X h p → IsDerived p.graph y → n ≤ base X h y → IsKept X (h ++ e ∷ []) p
kept-bound-late X h legal e y n act p is derived late =
    kept-step X h legal e p is p (graph-bound X h e y n act) (λ z there. based z (same-or-apart z y)) refl refl (is.counts ∙ sym (bind-counts X h e y n act)) (is.contents ∙ sym same)
    (λ x there. refl) (λ z d. refl) refl
    (λ x there. history-alike X h e x (history_at p.histories x) (is.histories x there) (declared-there X h p is x there) (ap (λ (ss : List Content). content_at ss x) same)) where
      same : vals X (h ++ e ∷ []) ≡ vals X h
      same = bind-earlier X h legal e y n act (subst (λ (g : List Decl). IsDerived g y) is.graph derived) late

      based : (z : ℕ) → (z ≡ y) ⊎ (z ≡ y → ⊥) → base X (h ++ e ∷ []) z ≡ base X h z
      based z (inl here) = subst (λ (i : ℕ). base X (h ++ e ∷ []) i ≡ base X h i) (sym here) (omega (arith, base-bind X h e y n act, late))
      based z (inr apart) = base-apart X h e y z n act apart

bound : (X : Frame) (h : List Entry) → IsLegal X h → (e : Entry) (y n : ℕ) → e.act ≡ Bind y n → (p : Parts) → IsKept X h p → IsDerived p.graph y → base X h y ≤ n → n ≤ length h
    → (s : Held) → s.content ≡ equation (kind_at p.graph y) (vals X (take n h)) → s.shape ≡ (held_at p.states y).shape → s.number ≡ number_by (kind_at p.graph y) s.content
    → (b : Base) → b.entries ≡ n → IsBase (kind_at p.graph y) (vals X (take n h)) b → (histories : List History)
    → length histories ≡ length p.histories → IsHistory X (h ++ e ∷ []) y (history_at histories y)
    → ((x : ℕ) → x < length p.graph → (x ≡ y → ⊥) → history_at histories x ≡ history_at p.histories x)
    → IsKept X (h ++ e ∷ []) (record { graph = p.graph; counts = p.counts; states = slice_set p.states y s; histories = histories; bases = slice_set p.bases y (Some b) })
bound X h legal e y n act p is derived early within s content shape number b entries basis histories many own others =
    kept-one X h legal e p is y derived.declared s p.counts histories (slice_set p.bases y (Some b))
    (graph-bound X h e y n act)
    (is.counts ∙ sym (bind-counts X h e y n act))
    (bind-later X h legal e y n act (subst (λ (g : List Decl). IsDerived g y) is.graph derived) early ∙ ap (λ (c : Content). slice_set (vals X h) y c) (sym (content ∙ ap (λ (g : List Decl). equation (kind_at g y) (vals X (take n h))) is.graph)))
    shape (λ d. number) many own others (set-length p.bases y (Some b))
    (λ z there. at-set (λ (o : Option Base). IsBaseAt X (h ++ e ∷ []) (kind_at p.graph z) z o) p.bases y (Some b) None z (omega (arith, there, is.bases_many))
    (λ here. subst (λ (i : ℕ). IsBaseAt X (h ++ e ∷ []) (kind_at p.graph i) i (Some b)) (sym here) new)
    (λ apart. base-stays X h legal e (kind_at p.graph z) z (base_at p.bases z) (base-apart X h e y z n act apart) (is.bases z there))) where
      first : take b.entries (h ++ e ∷ []) ≡ take n h
      first = ap (λ (i : ℕ). take i (h ++ e ∷ [])) entries ∙ take-front h (e ∷ []) n within

      new : IsBaseAt X (h ++ e ∷ []) (kind_at p.graph y) y (Some b)
      new = (derived.process, omega (arith, entries, base-bind X h e y n act, early), subst (λ (before : List Entry). IsBase (kind_at p.graph y) (vals X before) b) (sym first) basis)

bound-own : (X : Frame) (h : List Entry) → IsLegal X h → (e : Entry) (y n : ℕ) → e.act ≡ Bind y n → (p : Parts) → IsKept X h p → IsDerived p.graph y
    → (s : Held) → s.content ≡ equation (kind_at p.graph y) (vals X (take n h)) → val X (h ++ e ∷ []) y ≡ join_contents (val X h y) s.content
bound-own X h legal e y n act p is derived s content =
    let there : y < length (graph X h) = declared-there X h p is y derived.declared in
    set-own X h legal e y there (join_contents (val X h y) s.content) (bind-vals X h legal e y n act there
    ∙ ap (λ (c : Content). slice_set (vals X h) y (join_contents (val X h y) c)) (sym (content ∙ ap (λ (g : List Decl). equation (kind_at g y) (vals X (take n h))) is.graph)))

-- a bind of what was read since the base, by which its variable doesn't grow
pub kept-bound-still : (X : Frame) (h : List Entry) → IsLegal X h → (e : Entry) (y n : ℕ) → e.act ≡ Bind y n → (p : Parts) → IsKept X h p → IsDerived p.graph y → base X h y ≤ n → n ≤ length h
    → (s : Held) → s.content ≡ equation (kind_at p.graph y) (vals X (take n h)) → s.shape ≡ (held_at p.states y).shape → s.number ≡ number_by (kind_at p.graph y) s.content
    → (b : Base) → b.entries ≡ n → IsBase (kind_at p.graph y) (vals X (take n h)) b → IsContentAtMost s.content (held_at p.states y).content
    → IsKept X (h ++ e ∷ []) (record { graph = p.graph; counts = p.counts; states = slice_set p.states y s; histories = p.histories; bases = slice_set p.bases y (Some b) })
kept-bound-still X h legal e y n act p is derived early within s content shape number b entries basis covered =
    bound X h legal e y n act p is derived early within s content shape number b entries basis p.histories refl
    (kept-covered X h legal e p is y derived.declared s.content (bound-own X h legal e y n act p is derived s content) covered) (λ x there apart. refl)

-- a bind of what was read since the base, by which its variable grows
pub kept-bound-grown : (X : Frame) (h : List Entry) → IsLegal X h → (e : Entry) (y n : ℕ) → e.act ≡ Bind y n → (p : Parts) → IsKept X h p → IsDerived p.graph y → base X h y ≤ n → n ≤ length h
    → (s : Held) → s.content ≡ equation (kind_at p.graph y) (vals X (take n h)) → s.shape ≡ (held_at p.states y).shape → s.number ≡ number_by (kind_at p.graph y) s.content
    → (b : Base) → b.entries ≡ n → IsBase (kind_at p.graph y) (vals X (take n h)) b → (IsContentAtMost s.content (held_at p.states y).content → ⊥)
    → (news : List Row) → AreRowsOf (news_of (held_at p.states y).shape (held_at p.states y).content s.content) news
    → IsKept X (h ++ e ∷ []) (record {
      graph = p.graph;
      counts = p.counts;
      states = slice_set p.states y s;
      histories = slice_set p.histories y (grown (history_at p.histories y) news (length h));
      bases = slice_set p.bases y (Some b);
    })
kept-bound-grown X h legal e y n act p is derived early within s content shape number b entries basis more news of =
    let new : History = grown (history_at p.histories y) news (length h) in
    bound X h legal e y n act p is derived early within s content shape number b entries basis (slice_set p.histories y new) (set-length p.histories y new)
    (subst (IsHistory X (h ++ e ∷ []) y) (sym (history-set p.histories y new (omega (arith, derived.declared, is.histories_many))))
    (kept-joined X h e p is y derived.declared s.content (bound-own X h legal e y n act p is derived s content) more news of))
    (λ x there apart. history-unset p.histories y x new (omega (arith, there, is.histories_many)) apart)
