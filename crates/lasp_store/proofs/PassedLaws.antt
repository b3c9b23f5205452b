-- Passes over some variables, one after the other.
use Rattle.std.proofs.Common.{◌≡◌, ℕ, ◌+◌, ◌≤◌, List, [], ◌∷◌, ◌++◌, length, sym, ap, subst, ◌∙◌, append-nil, append_assoc, arith}
use Rattle.std.proofs.lemmas.List.{length-append}
use Rattle.model_journal.specs.Entry.{Bind, Entry, Frame, entry}
use Rattle.lasp_core.specs.Listed.{GoesOn}
use Rattle.lasp_replica.specs.Jobs.{IsUnclean}
use Rattle.lasp_store.specs.Turn.{Knows, frame_of, HadTurn}
use Rattle.lasp_store.specs.Settled.{HasSettled}
use Rattle.lasp_store.specs.Passed.{IsNeeded, AreOnce, HasPassed}
use Rattle.lasp_store.proofs.TurnLaws.{turn-seen, turn-frame}
use Rattle.lasp_store.proofs.SettleLaws.{settled-frame}

pub goes-on-chain : (a b c : List Entry) → GoesOn a b → GoesOn b c → GoesOn a c
goes-on-chain a b c x y = (x.0 ++ y.0, y.1 ∙ ap (λ (l : List Entry). l ++ y.0) x.1 ∙ append_assoc a x.0 y.0)

abbrev needed-later : (X : Frame) (h k : List Entry) (from to most : ℕ) (e : Entry) → GoesOn h k → to ≤ most → IsNeeded X h from to e → IsNeeded X k from most e
needed-later X h k from to most e on wide n = record {
  var = n.var;
  at = n.at;
  begins = goes-on-chain n.at h k n.begins on;
  result = n.result;
  unclean = n.unclean;
  low = n.low;
  high = omega (arith, n.high, wide);
}

-- where the journal goes on, and up to a later variable
once-later : (X : Frame) (h k : List Entry) (from to most : ℕ) (mine : List Entry) → GoesOn h k → to ≤ most → AreOnce X h from to mine → AreOnce X k from most mine
once-later X h k from to most [] on wide are = tt
once-later X h k from to most (e ∷ mine) on wide are = (needed-later X h k from to most e on wide are.0, once-later X h k (are.0.var + 1) to most mine on wide are.1)

-- from an earlier variable on
once-sooner : (X : Frame) (h : List Entry) (least from to : ℕ) (mine : List Entry) → least ≤ from → AreOnce X h from to mine → AreOnce X h least to mine
once-sooner X h least from to [] wide are = tt
once-sooner X h least from to (e ∷ mine) wide are =
    let n = are.0 in
    (record { var = n.var; at = n.at; begins = n.begins; result = n.result; unclean = n.unclean; low = omega (arith, n.low, wide); high = n.high }, are.1)

once-append : (X : Frame) (h : List Entry) (from mid to : ℕ) (a b : List Entry) → from ≤ mid → mid ≤ to → AreOnce X h from mid a → AreOnce X h mid to b → AreOnce X h from to (a ++ b)
once-append X h from mid to [] b low high are more = once-sooner X h from mid to b low more
once-append X h from mid to (e ∷ a) b low high are more =
    let n = are.0 in
    (needed-later X h h from mid to e ([], sym (append-nil h)) high n, once-append X h (n.var + 1) mid to a b (let small = n.high in omega (arith, small)) high are.1 more)

-- a pass over the variables before one, and over those from it on, is a pass over all of them
pub passed-both : (from mid to some more : ℕ) (a b c : Knows) → from ≤ mid → mid ≤ to → HasSettled b c → HasPassed from mid some a b → HasPassed mid to more b c → HasPassed from to (some + more) a c
passed-both from mid to some more a b c low high s x y = record {
  mine = x.mine ++ y.mine;
  own = y.own ∙ ap (λ (l : List Entry). l ++ y.mine) x.own ∙ append_assoc a.own x.mine y.mine;
  once = once-append (frame_of c) c.seen from mid to x.mine y.mine low high
      (once-later (frame_of c) b.seen c.seen from mid mid x.mine (s.seen.0, s.seen.1) (omega arith) (subst (λ (X : Frame). AreOnce X b.seen from mid x.mine) (sym (settled-frame b c s)) x.once))
      y.once;
  looks = omega (arith, x.looks, y.looks, length-append x.mine y.mine);
}

-- a turn that adds nothing passes over any
pub passed-turn : (from to : ℕ) (old new : Knows) → HadTurn [] old new → HasPassed from to 1 old new
passed-turn from to old new t = record {
  mine = [];
  own = ap (λ (p : Knows). p.own) t.pass;
  once = tt;
  looks = omega (arith, ap (λ (p : Knows). p.looks) t.pass);
}

-- a turn in which the result of a job is handed in that was taken where the pass had seen so much, of a variable that wasn't clean there
pub passed-bound : (y n : ℕ) (old new : Knows) → n ≡ length old.seen → IsUnclean (frame_of old) old.seen y → HadTurn (entry 0 (Bind y n) ∷ []) old new → HasPassed y (y + 1) 0 old new
passed-bound y n old new now unclean t = record {
  mine = entry 0 (Bind y n) ∷ [];
  own = ap (λ (p : Knows). p.own) t.pass;
  once = (
    record {
      var = y;
      at = old.seen;
      begins = turn-seen (entry 0 (Bind y n) ∷ []) old new t;
      result = ap (λ (m : ℕ). entry 0 (Bind y m)) now;
      unclean = subst (λ (X : Frame). IsUnclean X old.seen y) (sym (turn-frame (entry 0 (Bind y n) ∷ []) old new t)) unclean;
      low = omega arith;
      high = omega arith;
    },
    tt,
  );
  looks = omega (arith, ap (λ (p : Knows). p.looks) t.pass);
}

-- with more turns, and up to a later variable
pub passed-wider : (from to most some more : ℕ) (old new : Knows) → to ≤ most → some ≤ more → HasPassed from to some old new → HasPassed from most more old new
passed-wider from to most some more old new wide turns x = record {
  mine = x.mine;
  own = x.own;
  once = once-later (frame_of new) new.seen new.seen from to most x.mine ([], sym (append-nil new.seen)) wide x.once;
  looks = omega (arith, x.looks, turns);
}
