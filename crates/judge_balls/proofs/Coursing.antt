-- What a judge of ball reports owes at a line, for each kind of line where a report stands.
-- Stated of states and of the judge of balls; how the program goes from one to the next belongs elsewhere.
use Rattle.std.proofs.Common.{◌∙◌, ◌≡◌, ◌↔◌, ℕ, ◌-◌, ◌<◌, ◌≤◌, Bool, true, false, refl, subst, sym, arith, List, [], ◌∷◌, ◌++◌, length-append}
use Rattle.std.specs.Prelude.{IsTrue}
use Rattle.std.specs.Bool.{OnTrue}
use Rattle.shape_terms.specs.Points.{Point}
use Rattle.shape_terms.specs.Pictures.{Picture}
use Rattle.ball_terms.specs.Balls.{Ball, BallClaim, CoverObject}
use Rattle.ball_terms.specs.Lines.{Line}
use Rattle.ball_terms.specs.Reports as Reports
use Rattle.ball_terms.specs.Reports.{HeadingClaim, step, Claim}
use Rattle.judge_balls.specs.declared.judge.BallJudge.{BallJudge}
use Rattle.judge_balls.specs.declared.course.State.TheVariants.{Opening, Listing, Ended}
use Rattle.judge_balls.specs.declared.course.BallReportJudge.{BallReportJudge}
use Rattle.judge_balls.specs.Standing as Standing
use Rattle.judge_balls.specs.Course.{Fits, room_at, JudgesLine}

-- a test that failed
failed : (r : Bool) → r ≡ false → IsTrue r → ⊥
failed r f t = let e : false ≡ true = sym f ∙ t in cc

module _ {P : Type 0} {point : _} {eq : _} {order : _} {partial : _} where
  -- ---- one answer from what it has to say

  refused : (l : Line) (old new : BallReportJudge P point eq order partial)
      → ((X : Picture) (s : Reports.Standing) → Fits X old.state old.balls s → Claim X s l → ⊥) → JudgesLine l old new false
  refused l old new bad = record {
    answer = λ X s f. ((λ t. absurd (let e : false ≡ true = t in cc)), λ h. absurd (bad X s f h));
    stands = λ X s f. tt;
    room = tt;
  }

  accepted : (l : Line) (old new : BallReportJudge P point eq order partial)
      → ((X : Picture) (s : Reports.Standing) → Fits X old.state old.balls s → Claim X s l × Fits X new.state new.balls (step s l))
      → room_at new.state new.balls < room_at old.state old.balls → JudgesLine l old new true
  accepted l old new good less = record {
    answer = λ X s f. ((λ t. (good X s f).0), λ h. refl);
    stands = λ X s f. (good X s f).1;
    room = less;
  }

  -- ---- the claim of each kind of line where the judge stands

  heading : (j : BallJudge P point eq order partial) (X : Picture) (sides : Point) (number : ℕ) (r : Bool)
      → ((balls : List Ball) → Standing.StandsFor X balls j → IsTrue r ↔ HeadingClaim X sides number) → (s : Reports.Standing) → Fits X Opening j s
      → IsTrue r ↔ Claim X s (Line.Balls sides number)
  heading j X sides number r h Reports.Standing.Opening f = h [] f
  heading j X sides number r h (Reports.Standing.Listing m balls) f = absurd f
  heading j X sides number r h Reports.Standing.Ended f = absurd f

  begun : (j : BallJudge P point eq order partial) (X : Picture) (sides : Point) (number : ℕ) (s : Reports.Standing) → Fits X Opening j s
      → Fits X (Listing number) j (step s (Line.Balls sides number))
  begun j X sides number Reports.Standing.Opening f = (f, omega arith)
  begun j X sides number (Reports.Standing.Listing m balls) f = absurd f
  begun j X sides number Reports.Standing.Ended f = absurd f

  ball : (j : BallJudge P point eq order partial) (X : Picture) (b : Ball) (left : ℕ) (r : Bool)
      → ((balls : List Ball) → Standing.StandsFor X balls j → IsTrue r ↔ BallClaim X balls b) → 0 < left → (s : Reports.Standing) → Fits X (Listing left) j s
      → IsTrue r ↔ Claim X s (Line.Ball b)
  ball j X b left r h some Reports.Standing.Opening f = absurd f
  ball j X b left r h some (Reports.Standing.Listing m balls) f = let e = f.1 in
      ((λ t. record { wanted = omega arith; good = (h balls f.0).0 t }), λ c. (h balls f.0).1 c.good)
  ball j X b left r h some Reports.Standing.Ended f = absurd f

  listed : (j k : BallJudge P point eq order partial) (X : Picture) (b : Ball) (left : ℕ)
      → ((balls : List Ball) → Standing.StandsFor X balls j → Standing.StandsFor X (balls ++ b ∷ []) k) → 0 < left → (s : Reports.Standing)
      → Fits X (Listing left) j s → Fits X (Listing (left - 1)) k (step s (Line.Ball b))
  listed j k X b left h some Reports.Standing.Opening f = absurd f
  listed j k X b left h some (Reports.Standing.Listing m balls) f = let e = f.1 in (h balls f.0, omega (arith, length-append balls (b ∷ [])))
  listed j k X b left h some Reports.Standing.Ended f = absurd f

  end_claim : (j : BallJudge P point eq order partial) (X : Picture) (left : ℕ) (r : Bool)
      → ((balls : List Ball) → Standing.StandsFor X balls j → IsTrue r ↔ CoverObject X balls) → left ≤ 0 → (s : Reports.Standing) → Fits X (Listing left) j s
      → IsTrue r ↔ Claim X s Line.End
  end_claim j X left r h none Reports.Standing.Opening f = absurd f
  end_claim j X left r h none (Reports.Standing.Listing m balls) f = let e = f.1 in
      ((λ t. record { all = omega arith; cover = (h balls f.0).0 t }), λ c. (h balls f.0).1 c.cover)
  end_claim j X left r h none Reports.Standing.Ended f = absurd f

  closed : (j : BallJudge P point eq order partial) (X : Picture) (left : ℕ) (s : Reports.Standing) → Fits X (Listing left) j s
      → Fits X Ended j (step s Line.End)
  closed j X left Reports.Standing.Opening f = absurd f
  closed j X left (Reports.Standing.Listing m balls) f = tt
  closed j X left Reports.Standing.Ended f = absurd f

  -- ---- the first line

  module _ (old : BallReportJudge P point eq order partial) (sides : Point) (number : ℕ) (r : Bool) (here : old.state ≡ Opening)
      (is : (X : Picture) (balls : List Ball) → Standing.StandsFor X balls old.balls → IsTrue r ↔ HeadingClaim X sides number) where
    pub heading_refused : (new : BallReportJudge P point eq order partial) → r ≡ false → JudgesLine (Line.Balls sides number) old new false
    heading_refused new f =
        refused (Line.Balls sides number) old new
        (λ X s h c. failed r f ((heading old.balls X sides number r (is X) s (subst (λ t. Fits X t old.balls s) here h)).1 c))

    pub heading_accepted : r ≡ true → JudgesLine (Line.Balls sides number) old (record { balls = old.balls; state = Listing number }) true
    heading_accepted t = accepted (Line.Balls sides number) old (record { balls = old.balls; state = Listing number })
        (λ X s h. (let g = subst (λ t. Fits X t old.balls s) here h in
        ((heading old.balls X sides number r (is X) s g).0 t, begun old.balls X sides number s g)))
        (subst (λ t. room_at (Listing number) old.balls < room_at t old.balls) (sym here) (omega arith))

  -- ---- a ball

  module _ (old : BallReportJudge P point eq order partial) (b : Ball) (left : ℕ) (r : Bool) (here : old.state ≡ Listing left) (some : 0 < left)
      (is : (X : Picture) (balls : List Ball) → Standing.StandsFor X balls old.balls → IsTrue r ↔ BallClaim X balls b) where
    pub ball_refused : (new : BallReportJudge P point eq order partial) → r ≡ false → JudgesLine (Line.Ball b) old new false
    ball_refused new f = refused (Line.Ball b) old new
        (λ X s h c. failed r f ((ball old.balls X b left r (is X) some s (subst (λ t. Fits X t old.balls s) here h)).1 c))

    pub ball_accepted : (k : BallJudge P point eq order partial)
        → ((X : Picture) (balls : List Ball) → Standing.StandsFor X balls old.balls → OnTrue r (Standing.StandsFor X (balls ++ b ∷ []) k))
        → OnTrue r (Standing.room_of k < Standing.room_of old.balls) → r ≡ true
        → JudgesLine (Line.Ball b) old (record { balls = k; state = Listing (left - 1) }) true
    ball_accepted k stands room t = accepted (Line.Ball b) old (record { balls = k; state = Listing (left - 1) })
        (λ X s h. (
        let g = subst (λ t. Fits X t old.balls s) here h in (
          (ball old.balls X b left r (is X) some s g).0 t,
          listed old.balls k X b left (λ balls m. subst (λ v. OnTrue v (Standing.StandsFor X (balls ++ b ∷ []) k)) t (stands X balls m)) some s g,
        )))
        (let less : Standing.room_of k < Standing.room_of old.balls = subst (λ v. OnTrue v (Standing.room_of k < Standing.room_of old.balls)) t room in
        subst (λ t. room_at (Listing (left - 1)) k < room_at t old.balls) (sym here) (omega (arith, less)))

  -- ---- the end

  module _ (old : BallReportJudge P point eq order partial) (left : ℕ) (r : Bool) (here : old.state ≡ Listing left) (none : left ≤ 0)
      (is : (X : Picture) (balls : List Ball) → Standing.StandsFor X balls old.balls → IsTrue r ↔ CoverObject X balls) where
    pub end_refused : (new : BallReportJudge P point eq order partial) → r ≡ false → JudgesLine Line.End old new false
    end_refused new f = refused Line.End old new
        (λ X s h c. failed r f ((end_claim old.balls X left r (is X) none s (subst (λ t. Fits X t old.balls s) here h)).1 c))

    pub end_accepted : r ≡ true → JudgesLine Line.End old (record { balls = old.balls; state = Ended }) true
    end_accepted t = accepted Line.End old (record { balls = old.balls; state = Ended })
        (λ X s h. (let g = subst (λ t. Fits X t old.balls s) here h in ((end_claim old.balls X left r (is X) none s g).0 t, closed old.balls X left s g)))
        (subst (λ t. room_at Ended old.balls < room_at t old.balls) (sym here) (omega arith))
