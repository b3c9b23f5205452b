use Rattle.std.proofs.Common.{rules, ◌≡◌, ℕ, [], sym, ap, ◌∙◌, subst}
use Rattle.left_right.specs.Sides as sides
use Rattle.lasp_snap.specs.declared.shown.Shown.{Shown}
use Rattle.lasp_snap.specs.Version.{Version}
use Rattle.lasp_snap.specs.Log.{FrontView}
use Rattle.lasp_snap.specs.Rule.{knowing}
use Rattle.lasp_snap.specs.Views.{IsSpy, IsNewSpy, shelf_view, spy_view}
use Rattle.lasp_snap.proofs.Rules.{admits, forks, merges}
use Rattle.lasp_snap.proofs.Watching.{new_is, new_spy}
use Rattle.lasp_snap.proofs.spy.Spy.of.Goals as goal

pub reader-requires : goal.reader-requires
reader-requires c = admits

pub tell-requires : goal.tell-requires
tell-requires c = forks _ _

-- the reader is new, and so of the table that the writer is of at this moment
pub learn-requires : goal.learn-requires
learn-requires c = record { own = search rules; rule = merges _ _ _ _ }

pub invariant_of-result : goal.invariant_of-result
invariant_of-result c =
    let x : Shown = c.args.writer.now.desk.shown.value in
    let v = sides.view c.learn.new.self.place in
    let knows : v ≡ knowing x = c.learn.ensures.1 ∙ (c.tell.ensures.given.1 ∙ c.requires.writing.knows) in
    let heard = c.again-2.result in
    let empty : heard.log ≡ [] = ap (λ (f : FrontView). f.log) c.again-2.ensures ∙ c.requires.start.0 in
    let book : heard.book ≡ x.front.book = ap (λ (f : FrontView). f.book) c.again-2.ensures ∙ c.requires.start.1 in
    let kept : c.in_ok-kept.kept ≡ x.version = c.in_ok-kept.ensures ∙ ap (λ (s : Shown). s.version) c.published-shown.ensures in
    let place : c.published-shown.result.now.published ≡ x.published = ap (λ (s : Shown). s.published) c.published-shown.ensures in
    subst (λ (k : Version). IsSpy k c.published-shown.result.now.published heard v) (sym kept) (subst (λ (n : ℕ). IsSpy x.version n heard v) (sym place) (new_is x v heard knows empty book c.requires.writing.shown))

pub returns-clause-spy : goal.returns-clause-spy
returns-clause-spy c =
    let x : Shown = c.args.writer.now.desk.shown.value in
    let v = sides.view c.learn.new.self.place in
    let knows : v ≡ knowing x = c.learn.ensures.1 ∙ (c.tell.ensures.given.1 ∙ c.requires.writing.knows) in
    let heard = c.again-2.result in
    let empty : heard.log ≡ [] = ap (λ (f : FrontView). f.log) c.again-2.ensures ∙ c.requires.start.0 in
    let book : heard.book ≡ x.front.book = ap (λ (f : FrontView). f.book) c.again-2.ensures ∙ c.requires.start.1 in
    let place : c.published-shown.result.now.published ≡ x.published = ap (λ (s : Shown). s.published) c.published-shown.ensures in
    subst (λ (n : ℕ). IsNewSpy (shelf_view x) (spy_view v heard n 0)) (sym place) (new_spy x v heard knows empty book c.requires.writing.shown.count)
