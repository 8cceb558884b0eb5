-- `line_feeds` counts them, one less than the pieces.
use native.Mathlib.Omega.{arith}
use mathlib.Core.Path.{◌≡◌}
use lib.Dec.{eqb}
use borrow.Author.Rules.{rules}
use Rattle.std.specs.List.{count_by}
use Rattle.std.proofs.iter.runs.Made.{chains}
use Rattle.motion_file.specs.Text.{line_feed}
use Rattle.motion_file.proofs.Pieces.{pieces_counted}
use Rattle.motion_file.proofs.line_feeds.Goals as goal

pub returns : goal.returns
returns c =
    let counted : c.count.result ≡ count_by (eqb line_feed) c.args.s.now = search (rules, chains) in
    omega (arith, counted, pieces_counted line_feed c.args.s.now)
