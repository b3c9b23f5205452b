-- Reads, entries and cores as trees of numbers.
use Rattle.std.specs.Prelude.{◌≡◌, ℕ, ℤ, pos, List, [], if◌then◌else◌, ◌==◌, refl}
use Rattle.std.specs.Coded.{Coded, code_by, coded×, coded_ℕ, coded_ℤ, coded_list}
use Rattle.model_values.specs.Value.{Val, int, coded_val}
use Rattle.model_states.specs.Content.{Content, least}
use Rattle.model_states.specs.Threshold.{Shape, set, Threshold, AtLeast, Above, Count, Added, Removed}
use Rattle.model_states.specs.Update.{Op, Add, Remove, Insert, Inc, Max, Join}
use Rattle.model_graph.specs.Graph.{Decl, no_decl}
use Rattle.model_graph.specs.Message.{Message}
use Rattle.model_journal.specs.Entry.{Act, Update, Deliver, Bind, Extend, Entry, Frame}
use Rattle.model_core.specs.Core.{Read, Core}
use Rattle.model_states.specs.Coded.{coded_content, coded_shape}
use Rattle.model_graph.specs.Coded.{coded_decls, coded_kind}
use Rattle.lasp_wire.specs.Sent.{coded_message, message}

-- ---- reads

abbrev ThresholdParts : Type 0
ThresholdParts = (ℕ × ℕ) × ((Shape × Content) × List Val)

-- a threshold's place among the thresholds, its count, its state, its values
abbrev threshold_parts : Threshold → ThresholdParts
threshold_parts (AtLeast shape s) = ((0, 0), ((shape, s), []))
threshold_parts (Above shape s) = ((1, 0), ((shape, s), []))
threshold_parts (Count k) = ((2, k), ((set, least), []))
threshold_parts (Added vs) = ((3, 0), ((set, least), vs))
threshold_parts (Removed vs) = ((4, 0), ((set, least), vs))

abbrev threshold_from : ThresholdParts → Threshold
threshold_from p =
    if p.0.0 == 0 then AtLeast p.1.0.0 p.1.0.1 else
    if p.0.0 == 1 then Above p.1.0.0 p.1.0.1 else
    if p.0.0 == 2 then Count p.0.1 else
    if p.0.0 == 3 then Added p.1.1 else
    Removed p.1.1

pub threshold_from-parts : (t : Threshold) → threshold_from (threshold_parts t) ≡ t
threshold_from-parts (AtLeast shape s) = refl
threshold_from-parts (Above shape s) = refl
threshold_from-parts (Count k) = refl
threshold_from-parts (Added vs) = refl
threshold_from-parts (Removed vs) = refl

abbrev pub coded_threshold : Coded Threshold
coded_threshold =
    code_by ThresholdParts (coded× (coded× coded_ℕ coded_ℕ) (coded× (coded× coded_shape coded_content) (coded_list coded_val)))
    threshold_parts threshold_from threshold_from-parts

abbrev pub coded_reads : Coded (List Read)
coded_reads =
    coded_list (code_by (ℕ × (ℕ × Threshold)) (coded× coded_ℕ (coded× coded_ℕ coded_threshold))
    (λ r. (r.number, (r.var, r.threshold))) (λ p. record { number = p.0; var = p.1.0; threshold = p.1.1 }) (λ _. refl))

-- ---- entries

abbrev OpParts : Type 0
OpParts = (ℕ × ℕ) × ((Val × ℤ) × Content)

-- an operation's place among the operations, its count, its value, its number, its content
abbrev op_parts : Op → OpParts
op_parts (Add v) = ((0, 0), ((v, pos 0), least))
op_parts (Remove v) = ((1, 0), ((v, pos 0), least))
op_parts (Insert v) = ((2, 0), ((v, pos 0), least))
op_parts (Inc by) = ((3, by), ((int (pos 0), pos 0), least))
op_parts (Max n) = ((4, 0), ((int (pos 0), n), least))
op_parts (Join s) = ((5, 0), ((int (pos 0), pos 0), s))

abbrev op_from : OpParts → Op
op_from p =
    if p.0.0 == 0 then Add p.1.0.0 else
    if p.0.0 == 1 then Remove p.1.0.0 else
    if p.0.0 == 2 then Insert p.1.0.0 else
    if p.0.0 == 3 then Inc p.0.1 else
    if p.0.0 == 4 then Max p.1.0.1 else
    Join p.1.1

pub op_from-parts : (op : Op) → op_from (op_parts op) ≡ op
op_from-parts (Add v) = refl
op_from-parts (Remove v) = refl
op_from-parts (Insert v) = refl
op_from-parts (Inc by) = refl
op_from-parts (Max n) = refl
op_from-parts (Join s) = refl

abbrev coded_op : Coded Op
coded_op = code_by OpParts (coded× (coded× coded_ℕ coded_ℕ) (coded× (coded× coded_val coded_ℤ) coded_content)) op_parts op_from op_from-parts

abbrev ActParts : Type 0
ActParts = ((ℕ × ℕ) × ℕ) × ((Op × Message) × Decl)

abbrev no_op : Op
no_op = Inc 0

abbrev no_message : Message
no_message = message [] []

-- an act's place among the acts, its two numbers, its operation, its message, its declaration
abbrev act_parts : Act → ActParts
act_parts (Update x op) = (((0, x), 0), ((op, no_message), no_decl))
act_parts (Deliver i m) = (((1, i), 0), ((no_op, m), no_decl))
act_parts (Bind y n) = (((2, y), n), ((no_op, no_message), no_decl))
act_parts (Extend d) = (((3, 0), 0), ((no_op, no_message), d))

abbrev act_from : ActParts → Act
act_from p =
    if p.0.0.0 == 0 then Update p.0.0.1 p.1.0.0 else
    if p.0.0.0 == 1 then Deliver p.0.0.1 p.1.0.1 else
    if p.0.0.0 == 2 then Bind p.0.0.1 p.0.1 else
    Extend p.1.1

pub act_from-parts : (a : Act) → act_from (act_parts a) ≡ a
act_from-parts (Update x op) = refl
act_from-parts (Deliver i m) = refl
act_from-parts (Bind y n) = refl
act_from-parts (Extend d) = refl

abbrev coded_decl : Coded Decl
coded_decl = code_by (List ℕ × _) (coded× (coded_list coded_ℕ) coded_kind) (λ d. (d.name, d.kind)) (λ p. record { name = p.0; kind = p.1 }) (λ _. refl)

abbrev coded_act : Coded Act
coded_act = code_by ActParts (coded× (coded× (coded× coded_ℕ coded_ℕ) coded_ℕ) (coded× (coded× coded_op coded_message) coded_decl)) act_parts act_from act_from-parts

abbrev pub coded_entry : Coded Entry
coded_entry = code_by (ℕ × Act) (coded× coded_ℕ coded_act) (λ e. (e.by, e.act)) (λ p. record { by = p.0; act = p.1 }) (λ _. refl)

abbrev pub coded_entries : Coded (List Entry)
coded_entries = coded_list coded_entry

-- ---- cores

abbrev pub coded_frame : Coded Frame
coded_frame =
    code_by (List Decl × (ℕ × ℕ)) (coded× coded_decls (coded× coded_ℕ coded_ℕ)) (λ x. (x.opening, (x.replica, x.nodes))) (λ p. record { opening = p.0; replica = p.1.0; nodes = p.1.1 }) (λ _. refl)

abbrev pub coded_core : Coded Core
coded_core =
    code_by ((Frame × List Entry) × ((List Read × List ℕ) × (ℕ × ℕ))) (coded× (coded× coded_frame coded_entries) (coded× (coded× coded_reads (coded_list coded_ℕ)) (coded× coded_ℕ coded_ℕ)))
    (λ c. ((c.frame, c.entries), ((c.parked, c.busy), (c.opened, c.owed))))
    (λ p. record { frame = p.0.0; entries = p.0.1; parked = p.1.0.0; busy = p.1.0.1; opened = p.1.1.0; owed = p.1.1.1 }) (λ _. refl)
