-- Building a chain and asking it, also as its caller keeps it, give documents 01's and 02's numbers alone,
-- and an accepted cover's corners are finite and in order:
-- `every-chain-answer`.
use Rattle.refused_run.proofs.motion_chain.Cover.{chain-cover-proper}
use Rattle.refused_run.proofs.motion_chain.Numbers.{chain-cover-numbered}
use Rattle.refused_run.proofs.motion_chain.Times.{chain-point-numbered, times-numbers}
use Rattle.chain_covers.proofs.box_set.Contains.{chain-set-numbered}
use Rattle.chain_covers.proofs.Number.{kept-set-numbered}
use Rattle.chain_join.proofs.Numbers.{moves-join-number}
use Rattle.refused_run.proofs.Search.{run-refusal}
use Rattle.reach_kept.proofs.chain_window.Numbers.{window-numbered}
use Rattle.reach_kept.proofs.window_cover.Kept.{kept-window-numbered}
use Rattle.reach_kept.proofs.window_meetings.Numbers.{windows-numbered}
use Rattle.reach_kept.proofs.window_pairs.Kept.{kept-windows-numbered}
use Rattle.reach_kept.proofs.reached_rows.Numbers.{rows-number}
use Rattle.cut_laws.proofs.Numbers.{cut-number}
use Rattle.reach_kept.proofs.reach_laws.Numbers.{reach-numbers}
use Rattle.reach_kept.proofs.Numbers.{kept-reach-number}
use Rattle.run_schedule.proofs.Accepted.{day-number}
use Rattle.refusal_numbers.specs.Chain.{EveryChainAnswer}
use Rattle.refusal_numbers.proofs.Chain.{building-numbered}
use Rattle.refusal_numbers.proofs.Pad.{chain-pad-numbered, kept-pad-numbered}
use Rattle.refusal_numbers.proofs.Interpolate.{chain-interpolate-numbered, kept-interpolate-numbered, held_number, pose-number}
use Rattle.refusal_numbers.proofs.KeptChain.{rows-point-numbered, rows-points-numbered, rows-cover-numbered}
use Rattle.refusal_numbers.proofs.Trial.{trial-numbered, rows-trial-numbered}

pub every-chain-answer : EveryChainAnswer
every-chain-answer = record {
  building = building-numbered;
  point = chain-point-numbered;
  pad = chain-pad-numbered;
  interpolate = chain-interpolate-numbered;
  points = λ c times p places. (times-numbers c times p places).query;
  cover = chain-cover-numbered;
  proper = λ built b depth. chain-cover-proper b depth built;
  set = chain-set-numbered;
  trial = trial-numbered;
  run = run-refusal;
  window-cover = window-numbered;
  windows = windows-numbered;
  rows-point = rows-point-numbered;
  rows-pad = kept-pad-numbered;
  rows-interpolate = kept-interpolate-numbered;
  rows-held = held_number;
  rows-pose = pose-number;
  rows-points = rows-points-numbered;
  rows-cover = rows-cover-numbered;
  rows-set = kept-set-numbered;
  rows-trial = rows-trial-numbered;
  rows_join = moves-join-number;
  rows-window-cover = kept-window-numbered;
  rows-windows = kept-windows-numbered;
  day = day-number;
  reached = rows-number;
  reach = reach-numbers;
  rows-reach = kept-reach-number;
  cut = cut-number;
}
