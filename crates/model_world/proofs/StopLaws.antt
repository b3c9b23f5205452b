-- A run of a script is told by its worlds: it stops where they say, and else it ends in the last of them.
use Rattle.std.proofs.Common.{suc, refl, sym, ap, subst, ◌∙◌, arith}
use Rattle.std.specs.Prelude.{◌≡◌, ℕ, ◌+◌, List, [], ◌∷◌, ◌++◌, length, Option, Some, None, Result, Ok, Err}
use Rattle.std.proofs.lemmas.List.{append-nil}
use Rattle.model_graph.specs.Chain.{◌>>=◌}
use Rattle.model_graph.specs.Evaluation.{first_large}
use Rattle.model_world.specs.Command.{Command}
use Rattle.model_world.specs.World.{Peer, Run, Point, act, step, play, point_from, stop_from, shown_at}
use Rattle.model_world.specs.Stops.{IsAfter, none, more, Halts, StopsAt, EndsAt}
use Rattle.model_world.specs.declared.stop.Stop.{Stop}

-- command numbers, counted on
pub shifted : (c n : ℕ) → (c + 1) + n ≡ c + suc n
shifted c n = omega arith

later-stop : (c : ℕ) (run next : Run) (k : Command) (rest : List Command) (stop : Stop) → step c run k ≡ Ok next → StopsAt (c + 1) next rest stop → StopsAt c run (k ∷ rest) stop
later-stop c run next k rest stop e s = record {
  done = k ∷ s.done;
  rest = s.rest;
  last = s.last;
  all = ap (λ (ks : List Command). k ∷ ks) s.all;
  after = more e s.after;
  halts = subst (λ (n : ℕ). Halts n s.last s.rest stop) (shifted c (length s.done)) s.halts;
}

play-found : (c : ℕ) (run : Run) (k : Command) (rest : List Command) (stop : Stop) (r : Result Run Stop) → step c run k ≡ r
    → ((next : Run) → play (c + 1) next rest ≡ Err stop → StopsAt (c + 1) next rest stop)
    → (r >>= (λ next. play (c + 1) next rest)) ≡ Err stop → StopsAt c run (k ∷ rest) stop
play-found c run k rest stop (Ok next) is found e = later-stop c run next k rest stop is (found next e)
play-found c run k rest stop (Err other) is found e =
    record { done = []; rest = k ∷ rest; last = run; all = refl; after = none; halts = subst (λ (n : ℕ). step n run k ≡ Err stop) (let p : c ≡ c + 0 = omega arith in p) (is ∙ e) }

-- a run that ends with a stop stops where its worlds say
pub stop-found : (c : ℕ) (run : Run) (commands : List Command) (stop : Stop) → play c run commands ≡ Err stop → StopsAt c run commands stop
unfolding play
stop-found c run [] stop e = record { done = []; rest = []; last = run; all = refl; after = none; halts = subst (λ (n : ℕ). act n run Point ≡ Err stop) (let p : c ≡ c + 0 = omega arith in p) e }
stop-found c run (k ∷ rest) stop e = play-found c run k rest stop (step c run k) refl (λ next h. stop-found (c + 1) next rest stop h) e

halts-play : (c : ℕ) (run : Run) (rest : List Command) (stop : Stop) → Halts c run rest stop → play c run rest ≡ Err stop
unfolding play
halts-play c run [] stop h = h
halts-play c run (k ∷ rest) stop h = ap (λ (r : Result Run Stop). r >>= (λ next. play (c + 1) next rest)) h

after-play : (c : ℕ) (run last : Run) (done rest : List Command) (r : Result Run Stop) → IsAfter c run done last → play (c + length done) last rest ≡ r → play c run (done ++ rest) ≡ r
unfolding play
after-play c run last [] rest r (none) e = subst (λ (n : ℕ). play n run rest ≡ r) (let p : c + 0 ≡ c = omega arith in p) e
after-play c run last (k ∷ done) rest r (more {next = next} is after) e =
    ap (λ (s : Result Run Stop). s >>= (λ next. play (c + 1) next (done ++ rest))) is
    ∙ after-play (c + 1) next last done rest r after (subst (λ (n : ℕ). play n last rest ≡ r) (sym (shifted c (length done))) e)

-- and a stop that its worlds say is how the run ends
pub stop-is : (c : ℕ) (run : Run) (commands : List Command) (stop : Stop) → StopsAt c run commands stop → play c run commands ≡ Err stop
stop-is c run commands stop s =
    subst (λ (ks : List Command). play c run ks ≡ Err stop) s.all
    (after-play c run s.last s.done s.rest (Err stop) s.after (halts-play (c + length s.done) s.last s.rest stop s.halts))

stop-same : (o : Option ℕ) (c p : ℕ) (rest : Result Run Stop) (run last : Run) → (rest ≡ Ok last → last ≡ run) → stop_from o c p rest ≡ Ok last → last ≡ run
stop-same None c p rest run last same e = same e
stop-same (Some x) c p rest run last same e = absurd cc

-- a point leaves the world as it is
pub point-same : (c p : ℕ) (peers : List Peer) (run last : Run) → point_from c p peers run ≡ Ok last → last ≡ run
point-same c p [] run last e = cc
point-same c p (r ∷ peers) run last e =
    stop-same (first_large 0 (shown_at run.graph r)) c p (point_from c (p + 1) peers run) run last (λ h. point-same c (p + 1) peers run last h) e

later-end : (c : ℕ) (run next last : Run) (k : Command) (rest : List Command) → step c run k ≡ Ok next → EndsAt (c + 1) next rest last → EndsAt c run (k ∷ rest) last
later-end c run next last k rest e s = record { after = more e s.after; point = subst (λ (n : ℕ). act n last Point ≡ Ok last) (shifted c (length rest)) s.point }

end-step : (c : ℕ) (run last : Run) (k : Command) (rest : List Command) (r : Result Run Stop) → step c run k ≡ r
    → ((next : Run) → play (c + 1) next rest ≡ Ok last → EndsAt (c + 1) next rest last)
    → (r >>= (λ next. play (c + 1) next rest)) ≡ Ok last → EndsAt c run (k ∷ rest) last
end-step c run last k rest (Ok next) is found e = later-end c run next last k rest is (found next e)
end-step c run last k rest (Err stop) is found e = absurd cc

end-here : (c : ℕ) (run last : Run) → last ≡ run → act c run Point ≡ Ok last → EndsAt c run [] last
end-here c run last same e = record {
  after = subst (λ (w : Run). IsAfter c run [] w) (sym same) none;
  point = subst (λ (n : ℕ). act n last Point ≡ Ok last) (let p : c ≡ c + 0 = omega arith in p) (subst (λ (w : Run). act c w Point ≡ Ok last) (sym same) e);
}

-- a run that ends in a world has done every command on the way to it
pub end-found : (c : ℕ) (run last : Run) (commands : List Command) → play c run commands ≡ Ok last → EndsAt c run commands last
unfolding play
end-found c run last [] e = end-here c run last (point-same c 0 run.peers run last e) e
end-found c run last (k ∷ rest) e = end-step c run last k rest (step c run k) refl (λ next h. end-found (c + 1) next last rest h) e

point-play : (c : ℕ) (last : Run) (r : Result Run Stop) → act c last Point ≡ r → play c last [] ≡ r
unfolding play
point-play c last r e = e

-- and a world to which every command leads is where the run ends
pub end-is : (c : ℕ) (run last : Run) (commands : List Command) → EndsAt c run commands last → play c run commands ≡ Ok last
end-is c run last commands s =
    subst (λ (ks : List Command). play c run ks ≡ Ok last) (append-nil commands)
    (after-play c run last commands [] (Ok last) s.after (point-play (c + length commands) last (Ok last) s.point))
