-- A word that passes its checks is a command that may be done where it stands.
use Rattle.std.proofs.Common.{refl, sym, ap, subst, ◌∙◌}
use Rattle.std.specs.Prelude.{◌≡◌, ℕ, ◌<◌, List, length, slice_index_or, true, nat_lt, is_some, Result, Ok}
use Rattle.std.specs.Result.{result_unwrap_or}
use Rattle.std.proofs.lemmas.Bool.{ltb-true, and_parts}
use Rattle.std.proofs.lemmas.Bool.Decides.{Decides-eqb}
use Rattle.serde_json.specs.Data.{Data}
use Rattle.model_functions.specs.Library.{Library}
use Rattle.model_graph.specs.Graph.{Kind, OrSet, GSet, Counter, MaxReg, Decl, no_decl}
use Rattle.model_readings.specs.Graph.{decl_read}
use Rattle.model_readings.proofs.Graphs.{next-decl_read}
use Rattle.model_world.specs.Lawful.{IsMarkOf, MayAsk, MayBeDone, IsSmallUntil, AsksSmall, mark_limit, read_limit, is_mark, is_read}
use Rattle.model_scripts.specs.Word.{Target, Bound, at_least, above, count, added, removed, Word, add, remove, insert, inc, max, print, mark, bind, send, deliver, sync, settle, read, await, declare}
use Rattle.model_scripts.specs.Progress.{Progress, next_number, mark_of, mark_at, place_at}
use Rattle.model_scripts.specs.Parts.{until_of, command_of, decl_of}
use Rattle.model_scripts.specs.Check.{command_limit, is_orset, is_gset, is_counter, is_maxreg, suits_bound, is_mark_of, is_brought_bound, has_room_beside, has_room, count_of, holds, mark_in_bound}
use Rattle.model_scripts.specs.Needs.{CanDeclare}
use Rattle.model_scripts.proofs.CommandLaws.{Passing}
use Rattle.model_readings.proofs.Forms.{may_follow}
use Rattle.model_scripts.proofs.PartLaws.{index-within, step-within, count-within, top-within, place-within, mark-within, value-within, values-within}
use Rattle.model_scripts.proofs.Small.{IsSmallBound, IsSmallWord}

orset-kind : (k : Kind) → is_orset k ≡ true → k ≡ OrSet
orset-kind OrSet h = refl
orset-kind _ h = absurd cc

gset-kind : (k : Kind) → is_gset k ≡ true → k ≡ GSet
gset-kind GSet h = refl
gset-kind _ h = absurd cc

counter-kind : (k : Kind) → is_counter k ≡ true → k ≡ Counter
counter-kind Counter h = refl
counter-kind _ h = absurd cc

maxreg-kind : (k : Kind) → is_maxreg k ≡ true → k ≡ MaxReg
maxreg-kind MaxReg h = refl
maxreg-kind _ h = absurd cc

-- what was read of a declaration, where it was read
read-decl : (lib : Library) (g : List Decl) (d : Data) (decl : Decl) → decl_read lib g d ≡ Ok decl → decl ≡ decl_of lib g d
read-decl lib g d decl e = sym (ap (λ (r : Result Decl _). result_unwrap_or r no_decl) e)

pub declared-read : (lib : Library) (g : List Decl) (d : Data) → CanDeclare lib g (declare d) → decl_read lib g d ≡ Ok (decl_of lib g d)
declared-read lib g d can = can.1 ∙ ap (λ (x : Decl). Ok x) (read-decl lib g d can.0 can.1)

pub room-beside : (p : Progress) (w : Word) → has_room p w ≡ true → has_room_beside p w ≡ true
room-beside p w h = (and_parts (nat_lt (next_number p) command_limit) (has_room_beside p w) h).1

pub room-number : (p : Progress) (w : Word) → has_room p w ≡ true → next_number p < command_limit
room-number p w h = ltb-true _ _ (and_parts (nat_lt (next_number p) command_limit) (has_room_beside p w) h).0

module _ (lib : Library) (nodes : ℕ) (p : Progress) (same : length p.names ≡ length p.stage.marked) where
  -- the mark was made, of the target's variable
  mark-there : (t : Target) (m : List ℕ) → is_some (mark_of m p.names) ≡ true → is_mark_of p t m ≡ true → IsMarkOf p.stage (place_at p.stage.graph t) (mark_at p.names m)
  mark-there t m known right = (subst (λ (n : ℕ). mark_at p.names m < n) same (mark-within p.names m known), (Decides-eqb (slice_index_or p.stage.marked (mark_at p.names m) 0) (place_at p.stage.graph t)).0 right)

  may-ask : (t : Target) (b : Bound) → holds (λ m. is_some (mark_of m p.names)) (mark_in_bound b) ≡ true → suits_bound nodes p t b ≡ true → MayAsk nodes p.stage (place_at p.stage.graph t) (until_of p b)
  may-ask t (at_least m) known right = mark-there t m known right
  may-ask t (above m) known right = mark-there t m known right
  may-ask t (count k) known right = right
  may-ask t (added vs) known right = right
  may-ask t (removed vs) known right = right

  pub may-be-done : (w : Word) → CanDeclare lib p.stage.graph w → Passing nodes p w → IsSmallWord w → MayBeDone nodes p.stage (command_of lib nodes p w)
  may-be-done (add t v) can a small = ((index-within nodes t.node a.node, place-within p.stage.graph t.var a.var), orset-kind _ a.right, value-within v small a.brought)
  may-be-done (remove t v) can a small = ((index-within nodes t.node a.node, place-within p.stage.graph t.var a.var), orset-kind _ a.right, value-within v small a.brought)
  may-be-done (insert t v) can a small = ((index-within nodes t.node a.node, place-within p.stage.graph t.var a.var), gset-kind _ a.right, value-within v small a.brought)
  may-be-done (inc t k) can a small = let step = step-within k a.brought in ((index-within nodes t.node a.node, place-within p.stage.graph t.var a.var), counter-kind _ a.right, step.0, step.1)
  may-be-done (max t k) can a small = ((index-within nodes t.node a.node, place-within p.stage.graph t.var a.var), maxreg-kind _ a.right, top-within k small a.brought)
  may-be-done (print t) can a small = (index-within nodes t.node a.node, place-within p.stage.graph t.var a.var)
  may-be-done (mark t m) can a small = ((index-within nodes t.node a.node, place-within p.stage.graph t.var a.var), a.right)
  may-be-done (bind t m) can a small =
      let right = and_parts _ (is_mark_of p t m) a.right in
      ((index-within nodes t.node a.node, place-within p.stage.graph t.var a.var), right.0, mark-there t m a.known right.1)
  may-be-done (send n) can a small = index-within nodes n a.node
  may-be-done (deliver n i) can a small = (index-within nodes n a.node, index-within p.stage.sent i a.sent)
  may-be-done sync can a small = tt
  may-be-done settle can a small = tt
  may-be-done (read t b) can a small = ((index-within nodes t.node a.node, place-within p.stage.graph t.var a.var), may-ask t b a.known a.right)
  may-be-done (await t b) can a small = ((index-within nodes t.node a.node, place-within p.stage.graph t.var a.var), may-ask t b a.known a.right)
  may-be-done (declare d) can a small =
      may_follow p.stage.graph (decl_of lib p.stage.graph d) (ltb-true _ _ (room-beside p (declare d) a.room))
      (next-decl_read lib p.stage.graph d (decl_of lib p.stage.graph d) (declared-read lib p.stage.graph d can)).next

  small-until : (b : Bound) → IsSmallBound b → is_brought_bound b ≡ true → IsSmallUntil (until_of p b)
  small-until (at_least m) small brought = tt
  small-until (above m) small brought = tt
  small-until (count k) small brought = count-within k small brought
  small-until (added vs) small brought = values-within vs small brought
  small-until (removed vs) small brought = values-within vs small brought

  pub asks-small : (w : Word) → Passing nodes p w → IsSmallWord w → AsksSmall (command_of lib nodes p w)
  asks-small (add t v) a small = tt
  asks-small (remove t v) a small = tt
  asks-small (insert t v) a small = tt
  asks-small (inc t k) a small = tt
  asks-small (max t k) a small = tt
  asks-small (print t) a small = tt
  asks-small (mark t m) a small = tt
  asks-small (bind t m) a small = tt
  asks-small (send n) a small = tt
  asks-small (deliver n i) a small = tt
  asks-small sync a small = tt
  asks-small settle a small = tt
  asks-small (read t b) a small = small-until b small a.brought
  asks-small (await t b) a small = small-until b small a.brought
  asks-small (declare d) a small = tt

-- a mark and a read have room
pub room-mark : (lib : Library) (nodes : ℕ) (p : Progress) (w : Word) → has_room_beside p w ≡ true → is_mark (command_of lib nodes p w) ≡ true → count_of is_mark p < mark_limit
room-mark lib nodes p (mark t m) room is = ltb-true _ _ room
room-mark lib nodes p _ room is = absurd cc

pub room-read : (lib : Library) (nodes : ℕ) (p : Progress) (w : Word) → has_room_beside p w ≡ true → is_read (command_of lib nodes p w) ≡ true → count_of is_read p < read_limit
room-read lib nodes p (read t b) room is = ltb-true _ _ room
room-read lib nodes p _ room is = absurd cc
