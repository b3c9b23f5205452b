use Rattle.std.proofs.Common.{rules, ℕ, ◌≡◌, ◌+◌, [], ◌∷◌, length, sym, ap, subst, ◌∙◌, length-append}
use Rattle.std.specs.Prelude.{vec_len}
use Rattle.lasp_live_run.specs.Posts.{AreLeft, HaveBegunFrom, Outs}
use Rattle.lasp_live_run.proofs.PostLaws.{AreClosing, row-left, rows-closed}
use Rattle.lasp_live_run.proofs.posts.close_posts.Goals as goal

pub close_row-requires : goal.close_row-requires
close_row-requires c =
    let nodes = c.len-nodes.result in
    let rows = c.args.posts.outs.items in
    let old = c.args.posts.ins.items in
    let fewer = c.pop.new.self.items in
    let whole : length fewer ≡ vec_len c.pop.new.self = search rules in
    let long : length c.loop-row.outs.items ≡ length fewer + 1 = ap (λ (l : Outs). length l) c.in-Some.ensures.items ∙ length-append fewer (c.in-Some.row ∷ []) in
    subst (λ (n : ℕ). AreLeft nodes n nodes c.loop-row.boxes.items c.in-Some.row.items c.loop-row.ins.items) (whole ∙ sym c.len.ensures)
    (row-left nodes rows old (length fewer) c.loop-row.boxes.items c.loop-row.outs.items fewer c.in-Some.row c.loop-row.ins.items
    (subst (λ (n : ℕ). AreClosing nodes n rows old c.loop-row.boxes.items c.loop-row.outs.items c.loop-row.ins.items) long c.loop-row.invariant) c.in-Some.ensures.items)

pub loop-row-preserved : goal.loop-row-preserved
loop-row-preserved c =
    let nodes = c.len-nodes.result in
    let rows = c.args.posts.outs.items in
    let old = c.args.posts.ins.items in
    let fewer = c.pop.new.self.items in
    let whole : length fewer ≡ vec_len c.pop.new.self = search rules in
    let place : c.len.result ≡ length fewer = c.len.ensures ∙ sym whole in
    let long : length c.loop-row.outs.items ≡ length fewer + 1 = ap (λ (l : Outs). length l) c.in-Some.ensures.items ∙ length-append fewer (c.in-Some.row ∷ []) in
    rows-closed nodes rows old (length fewer) c.loop-row.boxes.items c.close_row.new.boxes.items c.loop-row.outs.items fewer c.in-Some.row c.loop-row.ins.items c.close_row.new.ins.items
    (subst (λ (n : ℕ). AreClosing nodes n rows old c.loop-row.boxes.items c.loop-row.outs.items c.loop-row.ins.items) long c.loop-row.invariant) c.in-Some.ensures.items
    (subst (λ (n : ℕ). HaveBegunFrom n c.in-Some.row.items c.loop-row.ins.items c.close_row.new.ins.items) place c.close_row.ensures.begun)
    (subst (λ (n : ℕ). AreLeft nodes n 0 c.close_row.new.boxes.items [] c.close_row.new.ins.items) place c.close_row.ensures.left) c.close_row.ensures.fewer
