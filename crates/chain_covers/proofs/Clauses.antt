-- The five clauses of the set query from what is answered: `no-moves`, `no-boxes`, `many-boxes`, `box-refused`, `all-accepted`.
-- The guarantee is that of built moves, since rows that building has left are asked as the chain of their moves is (`kept_set`).
use Prim.Native.Nat.{ℕ, ◌+◌, ◌-◌, ◌≤◌, ◌<◌}
use mathlib.Core.Path.{◌≡◌, refl, sym, ap, subst, ◌∙◌}
use mathlib.Core.List.{List, [], ◌∷◌, map}
use native.Mathlib.Omega.{arith}
use borrow.Author.Tests.{eq-eqb, ne_eqb, lt-ltb}
use lib.ListN.{length, take, length-map}
use lib.Ieee.{Float}
use Rattle.lent_arrays.specs.matrix4x4.Rows.{Rows}
use Rattle.bounds3.specs.declared.Point3f.{Point3f}
use Rattle.bounds3.specs.declared.Bounds3f.{Bounds3f}
use Rattle.bounds3.specs.List.{Bounds3f-list, Bounds3f-of_list}
use Rattle.lent_arrays.specs.transform.declared.BoundsAnswer.{BoundsAnswer}
use Rattle.lent_arrays.specs.transform.Answer.{PointAnswer, BoundsAnswer-bounds}
use Rattle.box_set.specs.motion_chain.Chain.{Chain, Chain-transform_point, Chain-cover}
use Rattle.box_set.proofs.motion_chain.Cover.{chain-cover-nonzero}
use Rattle.chain_fronts.specs.chain_rows.Kept.{Chain-to_rows, Moves-chain, Moves-cover, Moves-transform_point}
use Rattle.chain_fronts.proofs.chain_rows.Kept.{chain-inverse, kept-point, kept-chain, built-rows}
use Rattle.box_set.specs.Set.{max_boxes, SetAnswer, covered, refused, SetAnswer-refusal, SetAnswer-covers}
use Rattle.box_set.specs.Set.{SetAnswer-union, SetAnswer-of, Boxes-covers, Chain-covers}
use Rattle.box_set.specs.Theorem.{SetWithin}
use Rattle.box_set.proofs.Contains.{moves-set-contains, moves-set-finer}
use Rattle.chain_fronts.specs.box_front.declared.Front.{Front}
use Rattle.chain_fronts.specs.box_front.means.Front.{Boxes-answers, Front-of}
use Rattle.chain_fronts.specs.motion_fronts.means.Covered.{Places-of, Places-answered}
use Rattle.chain_fronts.proofs.motion_fronts.Front.{front_below}
use Rattle.chain_fronts.proofs.motion_fronts.Places.{Left, asked-all, places-front, answered-places, answered-size}
use Rattle.chain_covers.specs.Kept.{Moves-covers, SetAnswer-covers_left, SetAnswer-union_left}
use Rattle.chain_covers.specs.Theorem.{KeptSetContainsMotion}
use Rattle.chain_covers.specs.Finer.{KeptSetFiner}
use Rattle.chain_covers.specs.means.Union.{union_places}
use Rattle.chain_covers.proofs.Places.{set-refused, set-number, set-accepted}

-- ---- what the clauses say
abbrev pub Clauses : List Rows → List (List Float) → ℕ → ℕ → List (List Float) → List (List Float) → List Float → List Float → Type 0
Clauses rows boxes depth r covers covers' union union' =
    (r ≡ SetAnswer-refusal (Moves-covers rows boxes depth))
    × ((covers' ≡ SetAnswer-covers_left (Moves-covers rows boxes depth) covers)
    × ((union' ≡ SetAnswer-union_left (Moves-covers rows boxes depth) union)
    × ((r ≡ 0 → KeptSetContainsMotion rows boxes covers' union')
    × (r ≡ 0 → KeptSetFiner rows boxes depth covers' union'))))

module _ (rows : List Rows) (boxes : List (List Float)) (depth : ℕ) (covers : List (List Float)) (union : List Float) where
  -- ---- the guarantee
  pub kept_set : (c : Chain) → rows ≡ Chain-to_rows c → (length rows ≡ 0 → ⊥) → Moves-covers rows boxes depth ≡ Chain-covers c (map Bounds3f-of_list boxes) depth
  unfolding Moves-covers
  kept_set c e n = rw (ne_eqb (length rows) 0 n, e, chain-inverse c)

  set-contains : (length rows ≡ 0 → ⊥) → SetAnswer-refusal (Moves-covers rows boxes depth) ≡ 0 → (cs : List (List Float)) (u : List Float)
      → map Bounds3f-of_list (take (length boxes) cs) ≡ SetAnswer-covers (Moves-covers rows boxes depth)
      → Bounds3f-of_list u ≡ SetAnswer-union (Moves-covers rows boxes depth)
      → KeptSetContainsMotion rows boxes cs u
  set-contains n z cs u e f time h nan =
      let b = built-rows h in
      let c = b.chain in
      let asked : Point3f → PointAnswer = λ p. Moves-transform_point rows time p in
      let own : Point3f → PointAnswer = λ p. Chain-transform_point c time p in
      let same : asked ≡ own = λ i p. kept-point rows c time p b.same i in
      let k = kept_set c b.same n in
      let contains = moves-set-contains c (map Bounds3f-of_list boxes) depth time b.each (ap SetAnswer-refusal (sym k) ∙ z) nan in
      rw (same, kept-chain rows c b.same, e, f, k) contains

  -- ---- greater depths
  set-finer : (length rows ≡ 0 → ⊥) → SetAnswer-refusal (Moves-covers rows boxes depth) ≡ 0 → (cs : List (List Float)) (u : List Float)
      → covered (map Bounds3f-of_list (take (length boxes) cs)) (Bounds3f-of_list u) ≡ Moves-covers rows boxes depth
      → KeptSetFiner rows boxes depth cs u
  set-finer n z cs u e finer h l most =
      let b = built-rows h in
      let c = b.chain in
      let m = finer - depth in
      let bs = map Bounds3f-of_list boxes in
      let same : depth + m ≡ finer = omega (arith, l) in
      let own = kept_set c b.same n in
      let deeper : SetWithin (Chain-covers c bs (depth + m)) (Chain-covers c bs depth) =
      moves-set-finer c bs depth m b.each (omega (arith, same, most)) (ap SetAnswer-refusal (sym own) ∙ z) in
      rw (e, own, deeper-set c b.same finer) (subst (λ (d : ℕ). SetWithin (Chain-covers c bs d) (Chain-covers c bs depth)) same deeper)
    where
      deeper-set : (c : Chain) → rows ≡ Chain-to_rows c → (d : ℕ) → Moves-covers rows boxes d ≡ Chain-covers c (map Bounds3f-of_list boxes) d
      deeper-set c k d = unfold Moves-covers in rw (ne_eqb (length rows) 0 n, k, chain-inverse c)

  -- ---- refusals
  pub refused-clauses : (n : ℕ) → (n ≡ 0 → ⊥) → Moves-covers rows boxes depth ≡ refused n → Clauses rows boxes depth n covers covers union union
  refused-clauses n h e = rw e (refl, (refl, (refl, (λ z. absurd (h z), λ z. absurd (h z)))))

  pub no-moves : length rows ≡ 0 → Clauses rows boxes depth 12 covers covers union union
  no-moves e = refused-clauses 12 (λ z. absurd (omega (arith, z))) (go e)
    where
      go : length rows ≡ 0 → Moves-covers rows boxes depth ≡ refused 12
      go f = unfold Moves-covers in rw (eq-eqb (length rows) 0 f)

  pub no-boxes : (length rows ≡ 0 → ⊥) → length boxes ≡ 0 → Clauses rows boxes depth 14 covers covers union union
  no-boxes n e = refused-clauses 14 (λ z. absurd (omega (arith, z))) (go boxes e)
    where
      go : (bs : List (List Float)) → length bs ≡ 0 → Moves-covers rows bs depth ≡ refused 14
      go [] f = unfold Moves-covers Boxes-covers SetAnswer-of in rw (ne_eqb (length rows) 0 n)
      go (b ∷ bs) f = absurd (omega (arith, f))

  pub many-boxes : (length rows ≡ 0 → ⊥) → max_boxes < length boxes → Clauses rows boxes depth 14 covers covers union union
  many-boxes n l = refused-clauses 14 (λ z. absurd (omega (arith, z))) go
    where
      go : Moves-covers rows boxes depth ≡ refused 14
      go = unfold Moves-covers Boxes-covers in rw (ne_eqb (length rows) 0 n, length-map boxes Bounds3f-of_list, lt-ltb max_boxes (length boxes) l)

  abbrev chain_cover : Bounds3f → BoundsAnswer
  chain_cover b = Chain-cover (Moves-chain rows) b depth

  moves-covers : (length rows ≡ 0 → ⊥) → Moves-covers rows boxes depth ≡ Boxes-covers chain_cover (map Bounds3f-of_list boxes)
  unfolding Moves-covers
  moves-covers n = rw (ne_eqb (length rows) 0 n)

  -- ---- what the chain's covers leave
  abbrev kept_cover : Bounds3f → BoundsAnswer
  kept_cover b = Moves-cover rows b depth

  pub places-size : {places : List (List Float)} {front : Front} → length boxes ≤ max_boxes → Left kept_cover boxes front places → length places ≡ max_boxes
  places-size {places} {front} l (e, w) =
      let size = length-map boxes (λ b. kept_cover (Bounds3f-of_list b)) in
      rw (w, asked-all boxes l) (answered-size (Boxes-answers kept_cover boxes) (omega (arith, size, l)))

  module _ {places : List (List Float)} {front : Front} (n : length rows ≡ 0 → ⊥) (l : length boxes ≤ max_boxes) (h : Left kept_cover boxes front places) where
    abbrev answers : List BoundsAnswer
    answers = Boxes-answers chain_cover boxes

    chain_left : (front ≡ Front-of answers) × (places ≡ Places-answered answers)
    chain_left =
        let same : kept_cover ≡ chain_cover = λ i b. kept-cover b i in
        subst (λ (f : Bounds3f → BoundsAnswer). (front ≡ Front-of (Boxes-answers f boxes)) × (places ≡ Places-answered (Boxes-answers f boxes))) same
        (rw (asked-all boxes l) at h)
      where
        kept-cover : (b : Bounds3f) → kept_cover b ≡ chain_cover b
        kept-cover b = unfold Moves-cover in rw (ne_eqb (length rows) 0 n)

    pub box-refused : front.count < length boxes → Clauses rows boxes depth front.refusal covers covers union union
    box-refused k =
        let e = chain_left.0 in
        let count = ap (λ (f : Front). f.count) e in
        let less : (Front-of answers).count < length boxes = omega (arith, k, count) in
        let number = set-number chain_cover boxes l (λ b. chain-cover-nonzero b depth (Moves-chain rows)) less in
        rw e (refused-clauses (Front-of answers).refusal number (moves-covers n ∙ set-refused chain_cover boxes l less))

    pub all-accepted : (length boxes ≡ 0 → ⊥) → length boxes ≤ front.count → (u : Bounds3f) → u ≡ union_places places (length boxes)
        → Clauses rows boxes depth 0 covers places union (Bounds3f-list u)
    all-accepted some k u e =
        let count = ap (λ (f : Front). f.count) chain_left.0 in
        let below = front_below chain_cover boxes in
        let size = length-map boxes (λ b. chain_cover (Bounds3f-of_list b)) in
        let all : (Front-of answers).count ≡ length boxes = omega (arith, k, count, below) in
        let own : List Bounds3f = map BoundsAnswer-bounds answers in
        let left : places ≡ Places-of own = chain_left.1 ∙ answered-places answers (omega (arith, all, size)) in
        let answer : Moves-covers rows boxes depth ≡ covered own (union_places places (length boxes)) =
        moves-covers n ∙ set-accepted chain_cover boxes l some all ∙ ap (λ (ps : List (List Float)). covered own (union_places ps (length boxes))) (sym left) in
        let front : take (length boxes) places ≡ map Bounds3f-list own =
        rw left (places-front answers (length boxes) size) in
        let back : map Bounds3f-of_list (take (length boxes) places) ≡ own = rw front (round_trip own) in
        let own-covers = back ∙ ap SetAnswer-covers (sym answer) in
        let own-union = e ∙ ap SetAnswer-union (sym answer) in (
          ap SetAnswer-refusal (sym answer),
          (
            left ∙ ap (λ (s : SetAnswer). SetAnswer-covers_left s covers) (sym answer),
            (
              ap Bounds3f-list e ∙ ap (λ (s : SetAnswer). SetAnswer-union_left s union) (sym answer),
              (
                λ z. set-contains n (ap SetAnswer-refusal answer) places (Bounds3f-list u) own-covers own-union,
                λ z. set-finer n (ap SetAnswer-refusal answer) places (Bounds3f-list u) (whole back e ∙ sym answer),
              ),
            ),
          ),
        )
      where
        whole : {cs ds : List Bounds3f} {v w : Bounds3f} → cs ≡ ds → v ≡ w → covered cs v ≡ covered ds w
        whole {cs} {ds} {v} {w} p q = ap (λ (x : List Bounds3f). covered x v) p ∙ ap (covered ds) q

        round_trip : (bs : List Bounds3f) → map Bounds3f-of_list (map Bounds3f-list bs) ≡ bs
        round_trip [] = refl
        round_trip (b ∷ bs) = ap (λ (xs : List Bounds3f). b ∷ xs) (round_trip bs)
