-- Sine and cosine of an interval of angles, from what is kept of its two ends: u, sine and cosine. Document 01 knows no such thing, and no promise cites it:
-- `sin-range` and `cos-range` say that these are `Interval-sin_enclosure` and `Interval-cos_enclosure`. Definitions only.
use Rattle.std.specs.Prelude.{◌*◌, ◌^◌, min, ◌||◌, Float}
use Rattle.trig.specs.sine_table.Table.{quarter_turn}
use Rattle.trig.specs.declared.SinCos.{SinCos}
use Rattle.trig.specs.Units.{angle_units}
use Rattle.trig.specs.SinCos.{sin, cos}
use Rattle.trig.specs.Range.{lies, range_low, range_high}
use Rattle.interval.specs.declared.Interval.{Interval}
use Rattle.interval.specs.declared.EndAngle.{EndAngle}

-- Of an angle whose sine and cosine are given. u is held at 2 ^ 52, which is beyond every place that is asked for.
abbrev pub EndAngle-from_sin_cos : Float → SinCos → EndAngle
EndAngle-from_sin_cos a at = record { angle = a; units = min (angle_units a) (2 ^ 52); sin = at.sin; cos = at.cos }

unfoldable pub EndAngle-new : Float → EndAngle
EndAngle-new a = EndAngle-from_sin_cos a (record { sin = sin a; cos = cos a })

unfoldable pub EndAngle-sin_range : EndAngle → EndAngle → Interval
EndAngle-sin_range p q =
    record {
      low = range_low (lies (3 * quarter_turn) p.units q.units) p.sin q.sin;
      high = range_high (lies quarter_turn p.units q.units) p.sin q.sin;
    }

unfoldable pub EndAngle-cos_range : EndAngle → EndAngle → Interval
EndAngle-cos_range p q =
    record {
      low = range_low (lies (2 * quarter_turn) p.units q.units) p.cos q.cos;
      high = range_high (lies 0 p.units q.units || lies (4 * quarter_turn) p.units q.units) p.cos q.cos;
    }
