-- `fill_part` meets its contract: the part of the answers has three places a time of the stretch (`part-put`), and comes back as its move filled it.
use borrow.Author.Rules.{rules}
use Rattle.chain_times.proofs.Stretches.{part-put}
use Rattle.chain_times.proofs.fill_part.Goals as goal

pub returns : goal.returns
returns c = let a = c.args in let put = part-put a.motion.now a.p a.times.now a.answers.now a.from a.to c.requires.from_le_to c.requires.to_in_bounds c.requires.answers_len in record { left = rw (c.put_points.ensures.left, put); same = search rules }
