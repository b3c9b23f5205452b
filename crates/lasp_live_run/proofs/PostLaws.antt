-- How the mailboxes of a run are made and closed, one after the other.
use Rattle.std.proofs.Common.{◌≡◌, ℕ, zero, suc, ◌+◌, ◌*◌, ◌<◌, ◌≤◌, ◌⊎◌, inl, inr, List, [], ◌∷◌, ◌++◌, length, Option, Some, None, refl, sym, ap, subst, ◌∙◌, append-nil, append_assoc, length-append, arith}
use Rattle.std.specs.Prelude.{◌≢◌, IfNone, IfSome, slice_get, slice_set}
use Rattle.std.specs.Option.{MatchOption, option_to_list}
use Rattle.std.specs.declared.alloc.Global.{Global}
use Rattle.std.specs.declared.vec.Vec.{Vec}
use Rattle.std.proofs.lemmas.Option.{same_Some, slice_get_within}
use mathlib.Core.List.{IsPrefix}
use Rattle.model_graph.proofs.PlaceLaws.{below-or-not, set-length}
use Rattle.lasp_drive.proofs.NodeLaws.{at-set}
use Rattle.lasp_live.specs.Ends.{Box, In, Out}
use Rattle.lasp_live.specs.Sealed.{Plan}
use Rattle.lasp_live_run.specs.Posts.{AreAllEnds, AreFirstOf, AreFreshEnds, AreLeft, AreMade, AreRowsMade, HasNone, HaveBegun, HaveBegunFrom, Ins, IsBehind, IsColumn, IsPoppedFrom, IsPushedTo, IsRow, Outs}
use Rattle.lasp_live_run.proofs.PlaceLaws.{found-at, get-before, get-behind, get-either, get-last, rows-below, rows-more}

-- ---- they are made

pub behind-itself : (boxes : List Box) → IsBehind boxes boxes
behind-itself boxes = λ b box at. at

pub behind-next : (boxes now : List Box) (box : Box) → IsBehind boxes now → IsBehind boxes (now ++ box ∷ [])
behind-next boxes now box behind = λ b x at. get-behind now box b x (behind b x at)

row-kept : (nodes k many : ℕ) (boxes new : List Box) (os : List Out) → IsBehind boxes new → IsRow nodes k many boxes os → IsRow nodes k many new os
row-kept nodes k many boxes new os behind row = record { size = row.size; each = λ j o at. ((row.each j o at).0, behind (k * nodes + j) o.of (row.each j o at).1) }

column-kept : (nodes j many : ℕ) (boxes new : List Box) (es : List In) → IsBehind boxes new → IsColumn nodes j many boxes es → IsColumn nodes j many new es
column-kept nodes j many boxes new es behind column = record { size = column.size; each = λ k e at. ((column.each k e at).0, behind (k * nodes + j) e.of (column.each k e at).1) }

-- one more end of a mailbox that was just made
row-next : (nodes q p : ℕ) (boxes : List Box) (box : Box) (row : List Out) → length boxes ≡ q * nodes + p → IsRow nodes q p boxes row → IsRow nodes q (p + 1) (boxes ++ box ∷ []) (row ++ record { of = box; put = [] } ∷ [])
row-next nodes q p boxes box row many is = record {
  size = omega (arith, is.size, length-append row (record { of = box; put = [] } ∷ []));
  each = λ j o at. each j o (get-either row (record { of = box; put = [] }) j o at);
} where
  there : slice_get (boxes ++ box ∷ []) (q * nodes + p) ≡ Some box
  there = ap (slice_get (boxes ++ box ∷ [])) (sym many) ∙ get-last boxes box

  each : (j : ℕ) (o : Out) → (slice_get row j ≡ Some o) ⊎ ((j ≡ length row) × (o ≡ record { of = box; put = [] })) → (o.put ≡ []) × (slice_get (boxes ++ box ∷ []) (q * nodes + j) ≡ Some o.of)
  each j o (inl at) = ((is.each j o at).0, get-behind boxes box (q * nodes + j) o.of (is.each j o at).1)
  each j o (inr last) = (
    ap (λ (e : Out). e.put) last.1,
    ap (λ (i : ℕ). slice_get (boxes ++ box ∷ []) (q * nodes + i)) (last.0 ∙ is.size) ∙ there ∙ ap (λ (e : Out). Some e.of) (sym last.1),
  )

column-next : (nodes q p : ℕ) (boxes : List Box) (box : Box) (es : List In) → length boxes ≡ q * nodes + p → IsColumn nodes p q boxes es → IsColumn nodes p (q + 1) (boxes ++ box ∷ []) (es ++ record { of = box; got = [] } ∷ [])
column-next nodes q p boxes box es many is = record {
  size = omega (arith, is.size, length-append es (record { of = box; got = [] } ∷ []));
  each = λ k e at. each k e (get-either es (record { of = box; got = [] }) k e at);
} where
  there : slice_get (boxes ++ box ∷ []) (q * nodes + p) ≡ Some box
  there = ap (slice_get (boxes ++ box ∷ [])) (sym many) ∙ get-last boxes box

  each : (k : ℕ) (e : In) → (slice_get es k ≡ Some e) ⊎ ((k ≡ length es) × (e ≡ record { of = box; got = [] })) → (e.got ≡ []) × (slice_get (boxes ++ box ∷ []) (k * nodes + p) ≡ Some e.of)
  each k e (inl at) = ((is.each k e at).0, get-behind boxes box (k * nodes + p) e.of (is.each k e at).1)
  each k e (inr last) = (
    ap (λ (i : In). i.got) last.1,
    ap (λ (i : ℕ). slice_get (boxes ++ box ∷ []) (i * nodes + p)) (last.0 ∙ is.size) ∙ there ∙ ap (λ (i : In). Some i.of) (sym last.1),
  )

module _ (plan : Plan) (nodes q : ℕ) where
  made-by : (p : ℕ) (boxes : List Box) (box : Box) (row : List Out) (ins new : Ins) → AreMade plan nodes q p boxes row ins → box.frame ≡ Some plan → IsPushedTo p (record { of = box; got = [] }) ins new
      → AreMade plan nodes q (p + 1) (boxes ++ box ∷ []) (row ++ record { of = box; put = [] } ∷ []) new
  made-by p boxes box row ins new at framed pushed = subst (AreMade plan nodes q (p + 1) (boxes ++ box ∷ []) (row ++ record { of = box; put = [] } ∷ [])) (sym pushed.is) (record {
    many = omega (arith, at.many, length-append boxes (box ∷ []));
    planned = λ b x there. planned b x (get-either boxes box b x there);
    row_is = row-next nodes q p boxes box row at.many at.row_is;
    columns = set-length ins p pushed.after ∙ at.columns;
    done = at-set (λ j es. j < p + 1 → IsColumn nodes j (q + 1) (boxes ++ box ∷ []) es.items) ins p pushed.after
        (λ j es other there low. column-kept nodes j (q + 1) boxes (boxes ++ box ∷ []) es.items (behind-next boxes boxes box (behind-itself boxes)) (at.done j es there (omega (arith, low, other))))
        (λ low. subst (IsColumn nodes p (q + 1) (boxes ++ box ∷ [])) (sym pushed.items) (column-next nodes q p boxes box pushed.before.items at.many (at.left p pushed.before pushed.at (omega arith))));
    left = at-set (λ j es. p + 1 ≤ j → IsColumn nodes j q (boxes ++ box ∷ []) es.items) ins p pushed.after
        (λ j es other there past. column-kept nodes j q boxes (boxes ++ box ∷ []) es.items (behind-next boxes boxes box (behind-itself boxes)) (at.left j es there (omega (arith, past))))
        (λ past. absurd (omega (arith, past)));
  }) where
    planned : (b : ℕ) (x : Box) → (slice_get boxes b ≡ Some x) ⊎ ((b ≡ length boxes) × (x ≡ box)) → x.frame ≡ Some plan
    planned b x (inl there) = at.planned b x there
    planned b x (inr last) = ap (λ (y : Box). y.frame) last.1 ∙ framed

  pub made-next : (p : ℕ) (boxes more : List Box) (box : Box) (row os : List Out) (o : Out) (ins new : Ins) (e : In) → AreMade plan nodes q p boxes row ins → box.frame ≡ Some plan → more ≡ boxes ++ box ∷ [] → o ≡ record { of = box; put = [] }
      → os ≡ row ++ o ∷ [] → e ≡ record { of = box; got = [] } → IsPushedTo p e ins new → AreMade plan nodes q (p + 1) more os new
  made-next p boxes more box row os o ins new e at framed grown fresh put empty pushed =
      subst (λ (bs : List Box). AreMade plan nodes q (p + 1) bs os new) (sym grown)
      (subst (λ (l : List Out). AreMade plan nodes q (p + 1) (boxes ++ box ∷ []) l new) (sym (put ∙ ap (λ (x : Out). row ++ x ∷ []) fresh))
      (made-by p boxes box row ins new at framed (subst (λ (x : In). IsPushedTo p x ins new) empty pushed)))

  -- a whole row
  pub rows-next : (boxes more : List Box) (outs new : Outs) (row : Vec Out Global) (ins rest : Ins) → AreRowsMade plan nodes q boxes outs ins → IsBehind boxes more → new ≡ outs ++ row ∷ [] → AreMade plan nodes q nodes more row.items rest
      → AreRowsMade plan nodes (q + 1) more new rest
  rows-next boxes more outs new row ins rest at behind pushed made = record {
    rows_many = ap (λ (l : Outs). length l) pushed ∙ omega (arith, at.rows_many, length-append outs (row ∷ []));
    rows = λ k os there. each k os (get-either outs row k os (sym (ap (λ (l : Outs). slice_get l k) pushed) ∙ there));
    made = record {
      many = omega (arith, made.many, rows-more q nodes);
      planned = made.planned;
      row_is = record { size = refl; each = λ j o there. absurd cc };
      columns = made.columns;
      done = λ j es there low. absurd (omega (arith, low));
      left = λ j es there past. made.done j es there (omega (arith, slice_get_within rest j es there, made.columns));
    };
  } where
    each : (k : ℕ) (os : Vec Out Global) → (slice_get outs k ≡ Some os) ⊎ ((k ≡ length outs) × (os ≡ row)) → IsRow nodes k nodes more os.items
    each k os (inl there) = row-kept nodes k nodes boxes more os.items behind (at.rows k os there)
    each k os (inr last) = subst (λ (z : ℕ × Vec Out Global). IsRow nodes z.0 nodes more z.1.items) (λ i. (sym (last.0 ∙ at.rows_many) i, sym last.1 i)) made.row_is

pub rows-begin : (plan : Plan) (nodes : ℕ) (ins : Ins) → length ins ≡ nodes → ((p : ℕ) (es : Vec In Global) → slice_get ins p ≡ Some es → es.items ≡ []) → AreRowsMade plan nodes 0 [] [] ins
rows-begin plan nodes ins many empty = record {
  rows_many = refl;
  rows = λ k os there. absurd cc;
  made = record {
    many = omega arith;
    planned = λ b box there. absurd cc;
    row_is = record { size = refl; each = λ j o there. absurd cc };
    columns = many;
    done = λ j es there low. absurd (omega (arith, low));
    left = λ j es there past. subst (IsColumn nodes j 0 []) (sym (empty j es there)) (record { size = refl; each = λ k e at. absurd cc });
  };
}

pub rows-end : (plan : Plan) (nodes q : ℕ) (boxes : List Box) (outs : Outs) (ins : Ins) → AreRowsMade plan nodes q boxes outs ins → q ≡ nodes → AreFreshEnds plan nodes boxes outs ins
rows-end plan nodes q boxes outs ins at all = record {
  outs_many = at.rows_many ∙ all;
  ins_many = at.made.columns;
  each = λ p os es there here. (let row = at.rows p os there in let column = at.made.left p es here (omega arith) in (
    record {
      many = at.made.many ∙ ap (λ (n : ℕ). n * nodes + 0) all ∙ omega arith;
      outs_many = row.size;
      ins_many = column.size ∙ all;
      planned = at.made.planned;
      outs_of = λ j o put. (row.each j o put).1;
      ins_of = λ k e got. (column.each k e got).1;
    },
    record { outs_are = λ j o put. (row.each j o put).0; ins_are = λ k e got. (column.each k e got).0 },
  ));
}

-- ---- they are closed

module _ (nodes q : ℕ) where
  -- the last mailbox that is left, and its ends
  pub last-ends : (p : ℕ) (boxes fewer : List Box) (box : Box) (row os : List Out) (o : Out) (ins rest : Ins) (e : In) → AreLeft nodes q (p + 1) boxes row ins → boxes ≡ fewer ++ box ∷ [] → row ≡ os ++ o ∷ [] → IsPoppedFrom p e ins rest → (o.of ≡ box) × (e.of ≡ box)
  last-ends p boxes fewer box row os o ins rest e at shrunk popped taken = (same_Some o.of box (sym out ∙ there), same_Some e.of box (sym inside ∙ there)) where
    place : length fewer ≡ q * nodes + p
    place = omega (arith, at.many, ap (λ (l : List Box). length l) shrunk, length-append fewer (box ∷ []))

    there : slice_get boxes (q * nodes + p) ≡ Some box
    there = ap (λ (l : List Box). slice_get l (q * nodes + p)) shrunk ∙ ap (slice_get (fewer ++ box ∷ [])) (sym place) ∙ get-last fewer box

    short : length os ≡ p
    short = omega (arith, at.row_many, ap (λ (l : List Out). length l) popped, length-append os (o ∷ []))

    out : slice_get boxes (q * nodes + p) ≡ Some o.of
    out = at.row_of p o (ap (λ (l : List Out). slice_get l p) popped ∙ ap (slice_get (os ++ o ∷ [])) (sym short) ∙ get-last os o)

    few : length taken.after.items ≡ q
    few = omega (arith, at.here p taken.before taken.at (omega arith), ap (λ (l : List In). length l) taken.items, length-append taken.after.items (e ∷ []))

    inside : slice_get boxes (q * nodes + p) ≡ Some e.of
    inside = at.ins_of p taken.before q e taken.at (ap (λ (l : List In). slice_get l q) taken.items ∙ ap (slice_get (taken.after.items ++ e ∷ [])) (sym few) ∙ get-last taken.after.items e)

  pub left-next : (p : ℕ) (boxes fewer : List Box) (box : Box) (row os : List Out) (o : Out) (ins rest : Ins) (e : In) → AreLeft nodes q (p + 1) boxes row ins → boxes ≡ fewer ++ box ∷ [] → row ≡ os ++ o ∷ [] → IsPoppedFrom p e ins rest → AreLeft nodes q p fewer os rest
  left-next p boxes fewer box row os o ins rest e at shrunk popped taken = subst (AreLeft nodes q p fewer os) (sym taken.is) (record {
    many = place;
    within = (let within = at.within in omega (arith, within));
    row_many = short;
    row_of = λ j x there. before (q * nodes + j) x.of (let low = slice_get_within os j x there in omega (arith, low, short))
        (at.row_of j x (ap (λ (l : List Out). slice_get l j) popped ∙ get-behind os o j x there));
    columns = set-length ins p taken.after ∙ at.columns;
    here = at-set (λ j es. j < p → length es.items ≡ q + 1) ins p taken.after (λ j es other there low. at.here j es there (omega (arith, low))) (λ low. absurd (omega (arith, low)));
    gone = at-set (λ j es. p ≤ j → length es.items ≡ q) ins p taken.after (λ j es other there past. at.gone j es there (omega (arith, past, other))) (λ past. few);
    ins_of = λ j es k x there inside. inlets j es there k x inside;
  }) where
    place : length fewer ≡ q * nodes + p
    place = omega (arith, at.many, ap (λ (l : List Box). length l) shrunk, length-append fewer (box ∷ []))

    short : length os ≡ p
    short = omega (arith, at.row_many, ap (λ (l : List Out). length l) popped, length-append os (o ∷ []))

    few : length taken.after.items ≡ q
    few = omega (arith, at.here p taken.before taken.at (omega arith), ap (λ (l : List In). length l) taken.items, length-append taken.after.items (e ∷ []))

    before : (i : ℕ) (x : Box) → i < q * nodes + p → slice_get boxes i ≡ Some x → slice_get fewer i ≡ Some x
    before i x low there = get-before fewer box i x (omega (arith, low, place)) (sym (ap (λ (l : List Box). slice_get l i) shrunk) ∙ there)

    early : (j : ℕ) (es : Vec In Global) → j ≢ p → slice_get ins j ≡ Some es → (k : ℕ) → k < length es.items → (j < p) ⊎ (p ≤ j) → k * nodes + j < q * nodes + p
    early j es other there k low (inl less) = within (below-or-not k q) where
      within : (k < q) ⊎ (q ≤ k) → k * nodes + j < q * nodes + p
      within (inl earlier) = let row = rows-below k q nodes j earlier (omega (arith, less, at.within)) in omega (arith, row)
      within (inr later) = let last : k ≡ q = omega (arith, later, low, at.here j es there (omega (arith, less))) in subst (λ (n : ℕ). n * nodes + j < q * nodes + p) (sym last) (omega (arith, less))
    early j es other there k low (inr past) =
        let row = rows-below k q nodes j (omega (arith, low, at.gone j es there (omega (arith, past, other)))) (let inside = slice_get_within ins j es there in omega (arith, inside, at.columns)) in omega (arith, row)

    inlets : (j : ℕ) (es : Vec In Global) → slice_get (slice_set ins p taken.after) j ≡ Some es → (k : ℕ) (x : In) → slice_get es.items k ≡ Some x → slice_get fewer (k * nodes + j) ≡ Some x.of
    inlets = at-set (λ j es. (k : ℕ) (x : In) → slice_get es.items k ≡ Some x → slice_get fewer (k * nodes + j) ≡ Some x.of) ins p taken.after
        (λ j es other there k x inside. before (k * nodes + j) x.of (early j es other there k (slice_get_within es.items k x inside) (below-or-not j p)) (at.ins_of j es k x there inside))
        (λ k x inside. before (k * nodes + p) x.of (let low = slice_get_within taken.after.items k x inside in let less = rows-below k q nodes p (omega (arith, low, few)) (let within = at.within in omega (arith, within)) in omega (arith, less))
        (at.ins_of p taken.before k x taken.at (ap (λ (l : List In). slice_get l k) taken.items ∙ get-behind taken.after.items e k x inside)))

-- ---- what was got begins what was put

-- the mailboxes from node q as far as they were closed: these are left of its outlets and of all inlets
pub record IsClosing (nodes q : ℕ) (row : List Out) (old : Ins) (all boxes : List Box) (os : List Out) (now : Ins) : Type 0 where
  pub fewer : IsBehind boxes all
  pub left : AreLeft nodes q (length os) boxes os now
  pub outlets : (p : ℕ) (o : Out) → slice_get os p ≡ Some o → slice_get row p ≡ Some o
  pub still : (p : ℕ) (es : Vec In Global) → p < length os → slice_get old p ≡ Some es → slice_get now p ≡ Some es
  pub first : AreFirstOf now old
  pub begun : (p : ℕ) (es : Vec In Global) (o : Out) (e : In) → length os ≤ p → slice_get row p ≡ Some o → slice_get old p ≡ Some es → slice_get es.items q ≡ Some e → IsPrefix e.got o.put

first-itself : (ins : Ins) → AreFirstOf ins ins
first-itself ins p es fs at there = subst (λ (v : Vec In Global). IsPrefix v.items es.items) (same_Some es fs (sym at ∙ there)) ([], append-nil es.items)

module _ (nodes q : ℕ) (row : List Out) (old : Ins) (all : List Box) where
  pub closing-begins : AreLeft nodes q nodes all row old → IsClosing nodes q row old all all row old
  closing-begins left = record {
    fewer = behind-itself all;
    left = subst (λ (p : ℕ). AreLeft nodes q p all row old) (sym left.row_many) left;
    outlets = λ p o at. at;
    still = λ p es low at. at;
    first = first-itself old;
    begun = λ p es o e past at there inside. absurd (let low = slice_get_within row p o at in omega (arith, past, low));
  }

  pub closing-next : (boxes fewer : List Box) (box : Box) (os left : List Out) (o : Out) (now rest : Ins) (e : In) → IsClosing nodes q row old all boxes os now → boxes ≡ fewer ++ box ∷ [] → os ≡ left ++ o ∷ [] → IsPoppedFrom (length left) e now rest
      → IsPrefix e.got o.put → IsClosing nodes q row old all fewer left rest
  closing-next boxes fewer box os left o now rest e at shrunk popped taken begins = record {
    fewer = λ b x there. at.fewer b x (ap (λ (l : List Box). slice_get l b) shrunk ∙ get-behind fewer box b x there);
    left = left-next nodes q p boxes fewer box os left o now rest e (subst (λ (n : ℕ). AreLeft nodes q n boxes os now) long at.left) shrunk popped taken;
    outlets = λ j x there. at.outlets j x (ap (λ (l : List Out). slice_get l j) popped ∙ get-behind left o j x there);
    still = λ j es low there. ap (λ (l : Ins). slice_get l j) taken.is ∙ away now p taken.after j low ∙ at.still j es (omega (arith, low, long)) there;
    first = subst (λ (l : Ins). AreFirstOf l old) (sym taken.is) (λ j es fs there here. fewer-first j fs here es there);
    begun = λ j es x i past there was inside. choose j es x i there was inside (below-or-not p j) past;
  } where
    p : ℕ
    p = length left

    long : length os ≡ p + 1
    long = ap (λ (l : List Out). length l) popped ∙ length-append left (o ∷ [])

    away : (l : Ins) (i : ℕ) (x : Vec In Global) (j : ℕ) → j < i → slice_get (slice_set l i x) j ≡ slice_get l j
    away [] i x j low = refl
    away (y ∷ l) zero x j low = absurd (omega (arith, low))
    away (y ∷ l) (suc i) x zero low = refl
    away (y ∷ l) (suc i) x (suc j) low = away l i x j (omega (arith, low))

    fewer-first : (j : ℕ) (fs : Vec In Global) → slice_get (slice_set now p taken.after) j ≡ Some fs → (es : Vec In Global) → slice_get old j ≡ Some es → IsPrefix fs.items es.items
    fewer-first = at-set (λ j fs. (es : Vec In Global) → slice_get old j ≡ Some es → IsPrefix fs.items es.items) now p taken.after
        (λ j fs other here es there. at.first j es fs there here)
        (λ es there. (let prefix = at.first p es taken.before there taken.at in
        (e ∷ prefix.0, sym (append_assoc taken.after.items (e ∷ []) prefix.0) ∙ ap (λ (l : List In). l ++ prefix.0) (sym taken.items) ∙ prefix.1)))

    choose : (j : ℕ) (es : Vec In Global) (x : Out) (i : In) → slice_get row j ≡ Some x → slice_get old j ≡ Some es → slice_get es.items q ≡ Some i → (p < j) ⊎ (j ≤ p) → p ≤ j → IsPrefix i.got x.put
    choose j es x i there was inside (inl later) past = at.begun j es x i (omega (arith, later, long)) there was inside
    choose j es x i there was inside (inr early) past =
        let here : j ≡ p = omega (arith, early, past) in
        let column : slice_get now p ≡ Some es = at.still p es (omega (arith, long)) (ap (slice_get old) (sym here) ∙ was) in
        let same : taken.before ≡ es = same_Some taken.before es (sym taken.at ∙ column) in
        let few : length taken.after.items ≡ q =
        (let whole = at.left.here p taken.before taken.at (omega (arith, long)) in let items = ap (λ (l : List In). length l) taken.items in omega (arith, whole, items, length-append taken.after.items (e ∷ []))) in
        let last : slice_get es.items q ≡ Some e = ap (λ (v : Vec In Global). slice_get v.items q) (sym same) ∙ ap (λ (l : List In). slice_get l q) taken.items ∙ ap (slice_get (taken.after.items ++ e ∷ [])) (sym few) ∙ get-last taken.after.items e in
        let inlet : e ≡ i = same_Some e i (sym last ∙ inside) in
        let mine : slice_get row p ≡ Some o = at.outlets p o (ap (λ (l : List Out). slice_get l p) popped ∙ get-last left o) in
        let outlet : o ≡ x = same_Some o x (sym mine ∙ ap (slice_get row) (sym here) ∙ there) in
        subst (λ (z : In × Out). IsPrefix z.0.got z.1.put) (λ k. (inlet k, outlet k)) begins

  pub closing-ends : (boxes : List Box) (os : List Out) (now : Ins) → IsClosing nodes q row old all boxes os now → os ≡ [] → HaveBegunFrom q row old now × AreLeft nodes q 0 boxes [] now × IsBehind boxes all
  closing-ends boxes os now at none = (
    record { begun = λ p es o e there was inside. at.begun p es o e (let empty = ap (λ (l : List Out). length l) none in omega (arith, empty)) there was inside; first = at.first },
    subst (λ (l : List Out). AreLeft nodes q (length l) boxes l now) none at.left,
    at.fewer,
  )

-- ---- row by row

-- the mailboxes as far as they were closed: those from the nodes before q are left
pub record AreClosing (nodes q : ℕ) (rows : Outs) (old : Ins) (boxes : List Box) (outs : Outs) (now : Ins) : Type 0 where
  pub left : AreLeft nodes q 0 boxes [] now
  pub many : length outs ≡ q
  pub within : q ≤ nodes
  pub rows_of : (k : ℕ) (os : Vec Out Global) → slice_get outs k ≡ Some os → (length os.items ≡ nodes) × ((j : ℕ) (o : Out) → slice_get os.items j ≡ Some o → slice_get boxes (k * nodes + j) ≡ Some o.of)
  pub outlets : (k : ℕ) (os : Vec Out Global) → slice_get outs k ≡ Some os → slice_get rows k ≡ Some os
  pub first : AreFirstOf now old
  pub begun : (k p : ℕ) (os : Vec Out Global) (es : Vec In Global) (o : Out) (e : In) → q ≤ k → slice_get rows k ≡ Some os → slice_get old p ≡ Some es → slice_get os.items p ≡ Some o → slice_get es.items k ≡ Some e → IsPrefix e.got o.put

module _ (nodes : ℕ) (rows : Outs) (old : Ins) where
  pub rows-begins : (boxes : List Box) → AreAllEnds nodes boxes rows old → AreClosing nodes nodes rows old boxes rows old
  rows-begins boxes ends = record {
    left = record {
      many = ends.square ∙ omega arith;
      within = omega arith;
      row_many = refl;
      row_of = λ j o there. absurd cc;
      columns = ends.columns;
      here = λ j es there low. absurd (omega (arith, low));
      gone = λ j es there past. (ends.ins_of j es there).0;
      ins_of = λ j es k e there inside. (ends.ins_of j es there).1 k e inside;
    };
    many = ends.rows;
    within = omega arith;
    rows_of = ends.outs_of;
    outlets = λ k os there. there;
    first = first-itself old;
    begun = λ k p os es o e past there was at inside. absurd (let low = slice_get_within rows k os there in omega (arith, past, low, ends.rows));
  }

  -- the row that is closed next
  pub row-left : (q : ℕ) (boxes : List Box) (outs fewer : Outs) (row : Vec Out Global) (now : Ins) → AreClosing nodes (q + 1) rows old boxes outs now → outs ≡ fewer ++ row ∷ [] → AreLeft nodes q nodes boxes row.items now
  row-left q boxes outs fewer row now at popped = record {
    many = omega (arith, at.left.many, rows-more q nodes);
    within = omega arith;
    row_many = (at.rows_of q row last).0;
    row_of = (at.rows_of q row last).1;
    columns = at.left.columns;
    here = λ j es there low. at.left.gone j es there (omega arith);
    gone = λ j es there past. absurd (let inside = slice_get_within now j es there in omega (arith, past, inside, at.left.columns));
    ins_of = at.left.ins_of;
  } where
    short : length fewer ≡ q
    short = (let all = ap (λ (l : Outs). length l) popped in omega (arith, all, at.many, length-append fewer (row ∷ [])))

    last : slice_get outs q ≡ Some row
    last = ap (λ (l : Outs). slice_get l q) popped ∙ ap (slice_get (fewer ++ row ∷ [])) (sym short) ∙ get-last fewer row

  pub rows-closed : (q : ℕ) (boxes less : List Box) (outs fewer : Outs) (row : Vec Out Global) (now rest : Ins) → AreClosing nodes (q + 1) rows old boxes outs now → outs ≡ fewer ++ row ∷ [] → HaveBegunFrom q row.items now rest → AreLeft nodes q 0 less [] rest → IsBehind less boxes
      → AreClosing nodes q rows old less fewer rest
  rows-closed q boxes less outs fewer row now rest at popped closed left behind = record {
    left = left;
    many = short;
    within = (let within = at.within in omega (arith, within));
    rows_of = λ k os there. (let was = at.rows_of k os (ap (λ (l : Outs). slice_get l k) popped ∙ get-behind fewer row k os there) in
        (was.0, λ j o inside. kept (k * nodes + j) o.of (let low = slice_get_within fewer k os there in let small = slice_get_within os.items j o inside in rows-below k q nodes j (omega (arith, low, short)) (omega (arith, small, was.0))) (was.1 j o inside)));
    outlets = λ k os there. at.outlets k os (ap (λ (l : Outs). slice_get l k) popped ∙ get-behind fewer row k os there);
    first = λ p es fs there here. chain p es fs there here (found-at now p (let inside = slice_get_within rest p fs here in omega (arith, inside, left.columns, at.left.columns)));
    begun = λ k p os es o e past there was inside got. choose k p os es o e there was inside got (below-or-not q k) past;
  } where
    short : length fewer ≡ q
    short = (let all = ap (λ (l : Outs). length l) popped in omega (arith, all, at.many, length-append fewer (row ∷ [])))

    last : slice_get outs q ≡ Some row
    last = ap (λ (l : Outs). slice_get l q) popped ∙ ap (slice_get (fewer ++ row ∷ [])) (sym short) ∙ get-last fewer row

    kept : (i : ℕ) (x : Box) → i < q * nodes → slice_get boxes i ≡ Some x → slice_get less i ≡ Some x
    kept i x low there = (let found = found-at less i (omega (arith, low, left.many)) in found.1 ∙ sym (behind i found.0 found.1) ∙ there)

    chain : (p : ℕ) (es fs : Vec In Global) → slice_get old p ≡ Some es → slice_get rest p ≡ Some fs → (mid : Vec In Global) × (slice_get now p ≡ Some mid) → IsPrefix fs.items es.items
    chain p es fs there here mid =
        (let a = closed.first p mid.0 fs mid.1 here in let b = at.first p es mid.0 there mid.1 in
        (a.0 ++ b.0, sym (append_assoc fs.items a.0 b.0) ∙ ap (λ (l : List In). l ++ b.0) a.1 ∙ b.1))

    -- what stands in a beginning stands there in the whole
    within : (xs ys : List In) (i : ℕ) (e : In) → i < length xs → slice_get (xs ++ ys) i ≡ Some e → slice_get xs i ≡ Some e
    within [] ys i e low there = absurd (omega (arith, low))
    within (x ∷ xs) ys zero e low there = there
    within (x ∷ xs) ys (suc i) e low there = within xs ys i e (omega (arith, low)) there

    choose : (k p : ℕ) (os : Vec Out Global) (es : Vec In Global) (o : Out) (e : In) → slice_get rows k ≡ Some os → slice_get old p ≡ Some es → slice_get os.items p ≡ Some o → slice_get es.items k ≡ Some e → (q < k) ⊎ (k ≤ q) → q ≤ k → IsPrefix e.got o.put
    choose k p os es o e there was inside got (inl later) past = at.begun k p os es o e (omega (arith, later)) there was inside got
    choose k p os es o e there was inside got (inr early) past =
        let here : k ≡ q = omega (arith, early, past) in
        let mine : row ≡ os = same_Some row os (sym (at.outlets q row last) ∙ ap (slice_get rows) (sym here) ∙ there) in
        let size : length row.items ≡ nodes = (at.rows_of q row last).0 in
        let out : slice_get row.items p ≡ Some o = ap (λ (v : Vec Out Global). slice_get v.items p) mine ∙ inside in
        let mid = found-at now p (let low = slice_get_within row.items p o out in omega (arith, low, size, at.left.columns)) in
        let prefix = at.first p es mid.0 was mid.1 in
        let deep : length mid.0.items ≡ q + 1 = at.left.gone p mid.0 mid.1 (omega arith) in
        closed.begun p mid.0 o e out mid.1 (within mid.0.items prefix.0 q e (omega (arith, deep)) (ap (λ (l : List In). slice_get l q) prefix.1 ∙ ap (slice_get es.items) (sym here) ∙ got))

  pub rows-ends : (boxes : List Box) (outs : Outs) (now : Ins) (q : ℕ) → AreClosing nodes q rows old boxes outs now → outs ≡ [] → HaveBegun rows old
  rows-ends boxes outs now q at none = λ k p os es o e there was inside got. at.begun k p os es o e (let empty = ap (λ (l : Outs). length l) none in omega (arith, empty, at.many)) there was inside got

-- the last inlet of a node is taken, if there is one
pub popped-from : (r : Option In) (p : ℕ) (ins : Ins) (before after : Vec In Global) → slice_get ins p ≡ Some before → before.items ≡ after.items ++ option_to_list r → IfSome r (λ e. IsPoppedFrom p e ins (slice_set ins p after))
popped-from None p ins before after at items = tt
popped-from (Some e) p ins before after at items = record { before = before; after = after; at = at; is = refl; items = items }

pub none-from : (Q : In → Type 0) (r : Option In) (p : ℕ) (ins : Ins) (before : Vec In Global) (many left : ℕ) → slice_get ins p ≡ Some before → MatchOption r ((many ≡ 0) × (left ≡ 0)) Q → length before.items ≡ many → IfNone r (HasNone p ins)
none-from Q None p ins before many left at cases size = λ es there. ap (λ (v : Vec In Global). length v.items) (same_Some es before (sym there ∙ at)) ∙ size ∙ cases.0
none-from Q (Some e) p ins before many left at cases size = tt

pub ruleset makings = (behind-itself, behind-next, made-next, rows-next, rows-begin, rows-end)

pub ruleset closings = (last-ends, closing-begins, closing-next, closing-ends, rows-begins, row-left, rows-closed, rows-ends)
