use Rattle.std.proofs.Common.{◌≡◌, ◌<◌, List, IfOk, sym, ap, subst}
use Rattle.std.specs.Arc.{arc_value}
use Rattle.model_sets.specs.Rows.{join, of_rows}
use Rattle.model_states.specs.Content.{Content, of_set, size_of, row_limit}
use Rattle.model_graph.specs.Graph.{Decl, Kind, kind_at}
use Rattle.lasp_graph.specs.Kind.{kind_of}
use Rattle.lasp_graph.specs.States.{Held}
use Rattle.lasp_graph.specs.Evaluated.{number_by}
use Rattle.lasp_replica.proofs.TakeLaws.{states-at}
use Rattle.lasp_replica.proofs.InPlaceLaws.{inputs-of-var, held-there, first-small, second-small, was-before, on-inputs}
use Rattle.lasp_replica.proofs.replica.Replica.rows_given.Goals as goal

pub at-requires-in-Some : goal.at-requires-in-Some
at-requires-in-Some g c = states-at c.args.self.now c.requires.replica c.args.var c.from-in-Some.result c.from-in-Some.ensures c.requires.derived.declared

pub at-requires-in-Some-2 : goal.at-requires-in-Some-2
at-requires-in-Some-2 g c =
    let r = c.args.self.now in
    let i = inputs-of-var r c.requires.replica c.args.var c.requires.derived c.deref.result.now c.from.result (kind_of c.at.result.now.kind) c.inputs.result c.in-Some.x c.in-Some.y c.deref.ensures c.from.ensures c.at.ensures.kind c.inputs.ensures c.in-Some.is in
    states-at r c.requires.replica c.in-Some.x c.from-in-Some-2.result c.from-in-Some-2.ensures i.first_earlier.declared

pub at-requires-in-Some-3 : goal.at-requires-in-Some-3
at-requires-in-Some-3 g c =
    let r = c.args.self.now in
    let i = inputs-of-var r c.requires.replica c.args.var c.requires.derived c.deref.result.now c.from.result (kind_of c.at.result.now.kind) c.inputs.result c.in-Some.x c.in-Some.y c.deref.ensures c.from.ensures c.at.ensures.kind c.inputs.ensures c.in-Some.is in
    states-at r c.requires.replica c.in-Some.y c.from-in-Some-3.result c.from-in-Some-3.ensures i.second_earlier.declared

pub node_rows_gained-requires-clause-sets : goal.node_rows_gained-requires-clause-sets
node_rows_gained-requires-clause-sets g c =
    let r = c.args.self.now in
    let i = inputs-of-var r c.requires.replica c.args.var c.requires.derived c.deref.result.now c.from.result (kind_of c.at.result.now.kind) c.inputs.result c.in-Some.x c.in-Some.y c.deref.ensures c.from.ensures c.at.ensures.kind c.inputs.ensures c.in-Some.is in
    let first = held-there r.states c.from-in-Some-2.result c.in-Some.x (arc_value c.at-in-Some-2.result.now) c.deref-in-Some-3.result.now c.from-in-Some-2.ensures c.at-in-Some-2.ensures c.deref-in-Some-3.ensures in
    let second = held-there r.states c.from-in-Some-3.result c.in-Some.y (arc_value c.at-in-Some-3.result.now) c.deref-in-Some-4.result.now c.from-in-Some-3.ensures c.at-in-Some-3.ensures c.deref-in-Some-4.ensures in
    ((first-small r c.requires.replica c.args.var c.in-Some.x c.in-Some.y i c.deref-in-Some-3.result.now first).shape, (second-small r c.requires.replica c.args.var c.in-Some.x c.in-Some.y i c.deref-in-Some-4.result.now second).shape)

pub node_rows_gained-requires-clause-old : goal.node_rows_gained-requires-clause-old
node_rows_gained-requires-clause-old g c =
    let r = c.args.self.now in
    let i = inputs-of-var r c.requires.replica c.args.var c.requires.derived c.deref.result.now c.from.result (kind_of c.at.result.now.kind) c.inputs.result c.in-Some.x c.in-Some.y c.deref.ensures c.from.ensures c.at.ensures.kind c.inputs.ensures c.in-Some.is in
    let old = held-there r.states c.from-in-Some.result c.args.var (arc_value c.at-in-Some.result.now) c.deref-in-Some-2.result.now c.from-in-Some.ensures c.at-in-Some.ensures c.deref-in-Some-2.ensures in
    let first = held-there r.states c.from-in-Some-2.result c.in-Some.x (arc_value c.at-in-Some-2.result.now) c.deref-in-Some-3.result.now c.from-in-Some-2.ensures c.at-in-Some-2.ensures c.deref-in-Some-3.ensures in
    let second = held-there r.states c.from-in-Some-3.result c.in-Some.y (arc_value c.at-in-Some-3.result.now) c.deref-in-Some-4.result.now c.from-in-Some-3.ensures c.at-in-Some-3.ensures c.deref-in-Some-4.ensures in
    was-before r c.requires.replica c.args.var c.requires.derived c.in-Some.x c.in-Some.y i c.deref-in-Some.result.now c.args.var c.deref-in-Some-2.result.now c.deref-in-Some-3.result.now c.deref-in-Some-4.result.now c.args.unread.now c.second.result.now
    (ap (λ (g : List Decl). kind_at g c.args.var) (sym c.deref-in-Some.ensures)) old first second c.requires.unread c.second.ensures

pub node_rows_gained-requires-clause-width : goal.node_rows_gained-requires-clause-width
node_rows_gained-requires-clause-width g c =
    let r = c.args.self.now in
    let i = inputs-of-var r c.requires.replica c.args.var c.requires.derived c.deref.result.now c.from.result (kind_of c.at.result.now.kind) c.inputs.result c.in-Some.x c.in-Some.y c.deref.ensures c.from.ensures c.at.ensures.kind c.inputs.ensures c.in-Some.is in
    let first = held-there r.states c.from-in-Some-2.result c.in-Some.x (arc_value c.at-in-Some-2.result.now) c.deref-in-Some-3.result.now c.from-in-Some-2.ensures c.at-in-Some-2.ensures c.deref-in-Some-3.ensures in
    (first-small r c.requires.replica c.args.var c.in-Some.x c.in-Some.y i c.deref-in-Some-3.result.now first).width

pub node_rows_gained-requires-clause-small : goal.node_rows_gained-requires-clause-small
node_rows_gained-requires-clause-small g c =
    let r = c.args.self.now in
    let i = inputs-of-var r c.requires.replica c.args.var c.requires.derived c.deref.result.now c.from.result (kind_of c.at.result.now.kind) c.inputs.result c.in-Some.x c.in-Some.y c.deref.ensures c.from.ensures c.at.ensures.kind c.inputs.ensures c.in-Some.is in
    let first = held-there r.states c.from-in-Some-2.result c.in-Some.x (arc_value c.at-in-Some-2.result.now) c.deref-in-Some-3.result.now c.from-in-Some-2.ensures c.at-in-Some-2.ensures c.deref-in-Some-3.ensures in
    (first-small r c.requires.replica c.args.var c.in-Some.x c.in-Some.y i c.deref-in-Some-3.result.now first).small

pub returns-clause-whole : goal.returns-clause-whole
returns-clause-whole g c =
    let r = c.args.self.now in
    let i = inputs-of-var r c.requires.replica c.args.var c.requires.derived c.deref.result.now c.from.result (kind_of c.at.result.now.kind) c.inputs.result c.in-Some.x c.in-Some.y c.deref.ensures c.from.ensures c.at.ensures.kind c.inputs.ensures c.in-Some.is in
    let old = held-there r.states c.from-in-Some.result c.args.var (arc_value c.at-in-Some.result.now) c.deref-in-Some-2.result.now c.from-in-Some.ensures c.at-in-Some.ensures c.deref-in-Some-2.ensures in
    let first = held-there r.states c.from-in-Some-2.result c.in-Some.x (arc_value c.at-in-Some-2.result.now) c.deref-in-Some-3.result.now c.from-in-Some-2.ensures c.at-in-Some-2.ensures c.deref-in-Some-3.ensures in
    let second = held-there r.states c.from-in-Some-3.result c.in-Some.y (arc_value c.at-in-Some-3.result.now) c.deref-in-Some-4.result.now c.from-in-Some-3.ensures c.at-in-Some-3.ensures c.deref-in-Some-4.ensures in
    let whole = on-inputs r c.requires.replica c.args.var c.requires.derived c.in-Some.x c.in-Some.y i c.deref-in-Some.result.now c.args.var c.deref-in-Some-3.result.now c.deref-in-Some-4.result.now (ap (λ (g : List Decl). kind_at g c.args.var) (sym c.deref-in-Some.ensures)) first second in
    subst (λ (p : Content × Held). IfOk c.node_rows_gained.result (λ a. p.0 ≡ of_set (join p.1.content.rows (of_rows a.rows.items)))) (λ j. (whole j, old j)) c.node_rows_gained.ensures.whole

pub returns-clause-number : goal.returns-clause-number
returns-clause-number g c =
    let r = c.args.self.now in
    let i = inputs-of-var r c.requires.replica c.args.var c.requires.derived c.deref.result.now c.from.result (kind_of c.at.result.now.kind) c.inputs.result c.in-Some.x c.in-Some.y c.deref.ensures c.from.ensures c.at.ensures.kind c.inputs.ensures c.in-Some.is in
    let first = held-there r.states c.from-in-Some-2.result c.in-Some.x (arc_value c.at-in-Some-2.result.now) c.deref-in-Some-3.result.now c.from-in-Some-2.ensures c.at-in-Some-2.ensures c.deref-in-Some-3.ensures in
    let second = held-there r.states c.from-in-Some-3.result c.in-Some.y (arc_value c.at-in-Some-3.result.now) c.deref-in-Some-4.result.now c.from-in-Some-3.ensures c.at-in-Some-3.ensures c.deref-in-Some-4.ensures in
    let kind = ap (λ (g : List Decl). kind_at g c.args.var) (sym c.deref-in-Some.ensures) in
    let whole = on-inputs r c.requires.replica c.args.var c.requires.derived c.in-Some.x c.in-Some.y i c.deref-in-Some.result.now c.args.var c.deref-in-Some-3.result.now c.deref-in-Some-4.result.now kind first second in
    subst (λ (p : Kind × Content). IfOk c.node_rows_gained.result (λ a. a.number ≡ number_by p.0 p.1)) (λ j. (sym kind j, whole j)) c.node_rows_gained.ensures.number

pub returns-clause-large : goal.returns-clause-large
returns-clause-large g c =
    let r = c.args.self.now in
    let i = inputs-of-var r c.requires.replica c.args.var c.requires.derived c.deref.result.now c.from.result (kind_of c.at.result.now.kind) c.inputs.result c.in-Some.x c.in-Some.y c.deref.ensures c.from.ensures c.at.ensures.kind c.inputs.ensures c.in-Some.is in
    let first = held-there r.states c.from-in-Some-2.result c.in-Some.x (arc_value c.at-in-Some-2.result.now) c.deref-in-Some-3.result.now c.from-in-Some-2.ensures c.at-in-Some-2.ensures c.deref-in-Some-3.ensures in
    let second = held-there r.states c.from-in-Some-3.result c.in-Some.y (arc_value c.at-in-Some-3.result.now) c.deref-in-Some-4.result.now c.from-in-Some-3.ensures c.at-in-Some-3.ensures c.deref-in-Some-4.ensures in
    let whole = on-inputs r c.requires.replica c.args.var c.requires.derived c.in-Some.x c.in-Some.y i c.deref-in-Some.result.now c.args.var c.deref-in-Some-3.result.now c.deref-in-Some-4.result.now (ap (λ (g : List Decl). kind_at g c.args.var) (sym c.deref-in-Some.ensures)) first second in
    λ e. subst (λ (s : Content). row_limit < size_of s) whole (c.node_rows_gained.ensures.large e)
