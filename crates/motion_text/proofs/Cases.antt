-- The texts of answers written out: `bounds-text`, document 01's example, and `refusal-texts`, numbers of one, two and three digits. antt computes each.
use mathlib.Core.Path.{◌≡◌, refl}
use mathlib.Core.List.{[], ◌∷◌, map}
use lib.Ieee.{binary32, of_bits, to_bits}
use Rattle.hexadecimal.specs.Word.{digits}
use Rattle.motion_file.specs.Text.{ascii}
use Rattle.motion_text.specs.Answer.{line, bounds_text, refusal_text}

-- the box from 1 2 3 to 4 5 6
bounds-text : bounds_text (map (of_bits binary32) (0x3f800000 ∷ 0x40000000 ∷ 0x40400000 ∷ 0x40800000 ∷ 0x40a00000 ∷ 0x40c00000 ∷ []))
    ≡ ascii "x0 y0 z0 x1 y1 z1\n3f800000 40000000 40400000 40800000 40a00000 40c00000\n"
unfolding bounds_text line digits ascii of_bits to_bits
bounds-text = refl

refusal-texts : map refusal_text (4 ∷ 11 ∷ 100 ∷ 255 ∷ [])
    ≡ ascii "refused\n4\n" ∷ ascii "refused\n11\n" ∷ ascii "refused\n100\n" ∷ ascii "refused\n255\n" ∷ []
unfolding refusal_text ascii
refusal-texts = refl
