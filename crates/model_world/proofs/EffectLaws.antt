-- What an act leads to where it can be done.
use Rattle.std.proofs.Common.{◌≡◌, ℕ, Bool, true, false, if◌then◌else◌, [], ◌∷◌, ◌++◌, nat_lt, Option, Some, None, Result, Ok, Err, refl, ap, ◌∙◌}
use Rattle.model_states.specs.Content.{size_of, row_limit}
use Rattle.model_states.specs.Threshold.{meets}
use Rattle.model_graph.specs.Chain.{◌>>=◌}
use Rattle.model_graph.specs.Evaluation.{content_at, first_large}
use Rattle.model_world.specs.World.{Run, Act, Update, Keep, Post, Take, Point, Show, Open, Reach, Extend, peer_at, updated, delivered, message_at, sent_number, network_size, network_limit, threshold_of, shown_content_at, stop_from, act, effect}
use Rattle.model_world.specs.declared.stop.Stop.{Stop}
use Rattle.model_world.specs.declared.stop.Stop.TheVariants.{TooLarge}
use Rattle.model_world.proofs.StopLaws.{point-same}
use Rattle.model_world.specs.Follow.{Followed, with_run, follow_act, followed}

unless : (b : Bool) (stop : Stop) (run next : Run) → (if b then Err stop else Ok run) ≡ Ok next → next ≡ run
unless true stop run next e = absurd cc
unless false stop run next e = cc

provided : (b : Bool) (stop : Stop) (run next : Run) → (if b then Ok run else Err stop) ≡ Ok next → next ≡ run
provided true stop run next e = cc
provided false stop run next e = absurd cc

past-stop : (o : Option ℕ) (c p : ℕ) (run next : Run) → stop_from o c p (Ok run) ≡ Ok next → next ≡ run
past-stop None c p run next e = cc
past-stop (Some x) c p run next e = absurd cc

pub act-effect : (c : ℕ) (run next : Run) (a : Act) → act c run a ≡ Ok next → next ≡ effect run a
act-effect c run next (Update p x op) e = unless (nat_lt row_limit (size_of (content_at (updated p x op (peer_at run.peers p)).contents x))) (TooLarge c p x) (effect run (Update p x op)) next e
act-effect c run next (Keep p x) e = cc
act-effect c run next (Post p) e = unless (nat_lt network_limit (network_size (run.sent ++ message_at run.graph (peer_at run.peers p) ∷ []))) _ (effect run (Post p)) next e
act-effect c run next (Take p i) e = past-stop (first_large 0 (delivered run.graph (sent_number run.sent i) (peer_at run.peers p)).contents) c p (effect run (Take p i)) next e
act-effect c run next Point e = point-same c 0 run.peers run next e
act-effect c run next (Show p x) e = cc
act-effect c run next (Open p x until) e = cc
act-effect c run next (Reach p x until) e = provided (meets (threshold_of run.marks until) (shown_content_at run p x)) _ run next e
act-effect c run next (Extend d) e = cc

pub follow-effect : (c : ℕ) (f next : Followed) (a : Act) → follow_act c f a ≡ Ok next → next ≡ followed f a
follow-effect c f next a e = choose (act c f.run a) refl e where
  choose : (r : Result Run Stop) → act c f.run a ≡ r → (r >>= (λ run. Ok (with_run f a run))) ≡ Ok next → next ≡ followed f a
  choose (Ok run) is h = let same : next ≡ with_run f a run = cc in same ∙ ap (with_run f a) (act-effect c f.run run a is)
  choose (Err stop) is h = absurd cc
