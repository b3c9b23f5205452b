use Rattle.std.proofs.Common.{◌≡◌, ◌∙◌}
use Rattle.model_graph.specs.Lawful.{width_of, widths}
use Rattle.model_readings.specs.Lawful.{IsNext}
use Rattle.lasp_graph.specs.Decl.{decl_of}
use Rattle.lasp_graph.specs.Kept.{decls_of}
use Rattle.lasp_graph.specs.declared.graph.Declared.{Declared}
use Rattle.lasp_graph.proofs.Entries.{kept_push}
use Rattle.lasp_graph.proofs.graph.Graph.push.Goals as goal

pub invariant_of-self-2 : goal.invariant_of-self-2
invariant_of-self-2 c =
    let d : Declared = record { decl = c.args.decl; width = c.width_of-width.result } in
    let next : IsNext (decls_of c.self.inside.decls.entries) (decl_of c.args.decl) = rw c.self.view_is c.requires.next in
    let width : d.width ≡ width_of (decl_of c.args.decl).kind (widths (decls_of c.self.inside.decls.entries)) = rw c.self.view_is c.width_of-width.ensures in
    (kept_push c.self.inside.decls.entries c.in_ok-name.name d c.insert.new.self.entries c.self.invariant
    (rw c.self.view_is c.requires.room) next (c.in_ok-name.ensures.ok ∙ c.as_str.ensures.exact) width c.in_ok-insert.ensures.entries).0

pub returns-clause-ok : goal.returns-clause-ok
returns-clause-ok c =
    let d : Declared = record { decl = c.args.decl; width = c.width_of-width.result } in
    let next : IsNext (decls_of c.self.inside.decls.entries) (decl_of c.args.decl) = rw c.self.view_is c.requires.next in
    let width : d.width ≡ width_of (decl_of c.args.decl).kind (widths (decls_of c.self.inside.decls.entries)) = rw c.self.view_is c.width_of-width.ensures in
    rw (← c.self.view_is)
    (kept_push c.self.inside.decls.entries c.in_ok-name.name d c.insert.new.self.entries c.self.invariant
    (rw c.self.view_is c.requires.room) next (c.in_ok-name.ensures.ok ∙ c.as_str.ensures.exact) width c.in_ok-insert.ensures.entries).1
