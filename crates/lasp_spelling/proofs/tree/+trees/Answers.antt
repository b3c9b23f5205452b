use Rattle.std.proofs.Common.{[], ◌∷◌, map}
use Rattle.std.proofs.lemmas.List.{map-append}
use Rattle.serde_json.specs.View.{view}
use Rattle.serde_json.proofs.Views.{view-Array}
use Rattle.lasp_spelling.proofs.Arrays.{opens-more, opens-closes}
use Rattle.lasp_spelling.proofs.tree.+trees.Goals as goal

pub take_list-returns-in_default : goal.take_list-returns-in_default
take_list-returns-in_default t c =
    rw (view-Array c.loop.items) (opens-closes c.args.nesting c.args.bytes.now c.loop.rest.now c.in_ok-behind.behind.now (map view c.loop.items.items) c.loop.invariant c.in_ok-behind.ensures)

pub take_list-loop-preserved : goal.take_list-loop-preserved
take_list-loop-preserved t c =
    rw (c.in_ok-push_item-2.ensures, map-append view c.loop.items.items (c.in_ok-item.item ∷ []))
    (opens-more c.args.nesting c.args.bytes.now c.loop.rest.now c.in-Some.next.now c.in_ok-item.behind.now (map view c.loop.items.items) (view c.in_ok-item.item) c.loop.invariant c.in-Some.ensures c.in_ok-item.ensures)
