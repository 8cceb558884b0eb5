-- What is promised of every answer about windows: `WindowsAnswer-Numbered`.
use Rattle.std.specs.Prelude.{ℕ, ◌≡◌, List}
use Rattle.bounds_meeting.specs.transform.Answer.{OneOf}
use Rattle.window_meetings.specs.Windows.{WindowsAnswer, listed, WindowsAnswer-refusal, WindowsAnswer-windows}

-- The number is one of those listed, and an answer whose number is 0 is a list of windows.
pub record WindowsAnswer-Numbered (numbers : List ℕ) (a : WindowsAnswer) : Type 0 where
  pub number : OneOf (WindowsAnswer-refusal a) numbers
  pub none : WindowsAnswer-refusal a ≡ 0 → a ≡ listed (WindowsAnswer-windows a)
