-- Document 01, "The box and what is lent", with the sizes of request #109: the machine numbers, and which frames are insecure. F, s, n, m, k are
-- the fields frames, secure, pages, monitor, monitors. Assumes nothing.
use Rattle.std.specs.Prelude.{ℕ, ◌+◌, ◌*◌, ◌≤◌, ◌<◌, ◌≡◌, List, length, Bool, not, ◌&&◌, ◌⊎◌, leb, ltb}
use Rattle.words.specs.Words.{record_words}
use Rattle.machine.specs.declared.Machine.{Machine}

-- the machine numbers F, s, n, m, k as they come
abbrev pub machine_of : ℕ → ℕ → ℕ → ℕ → ℕ → Machine
machine_of F s n m k = record { frames = F; secure = s; pages = n; monitor = m; monitors = k }

-- #109: "n rises to 1,024 and F to 16,384"
abbrev pub most_frames : ℕ
most_frames = 16384

abbrev pub most_pages : ℕ
most_pages = 1024

-- the words of a frame; #109: "The header grows to 64 words: free map in words 9-40, zeros after"
abbrev pub frame_words : ℕ
frame_words = 1024

abbrev pub header_words : ℕ
header_words = 64

abbrev pub map_start : ℕ
map_start = 9

abbrev pub map_words : ℕ
map_words = 32

-- "F frames ..; secure frames s to s+n-1 ..; monitor frames m to m+k-1 (k at least 1). Both ranges lie below F and share no frame."
pub record Fits (b : Machine) : Type 0 where
  pub frames_low : 1 ≤ b.frames
  pub frames_high : b.frames ≤ most_frames
  pub pages_low : 1 ≤ b.pages
  pub pages_high : b.pages ≤ most_pages
  pub monitors_low : 1 ≤ b.monitors
  pub secure_below : b.secure + b.pages ≤ b.frames
  pub monitor_below : b.monitor + b.monitors ≤ b.frames
  pub apart : (b.secure + b.pages ≤ b.monitor) ⊎ (b.monitor + b.monitors ≤ b.secure)

-- "Every other frame below F is insecure."
pub record Insecure (b : Machine) (f : ℕ) : Type 0 where
  pub below : f < b.frames
  pub not_secure : (f < b.secure) ⊎ (b.secure + b.pages ≤ f)
  pub not_monitor : (f < b.monitor) ⊎ (b.monitor + b.monitors ≤ f)

-- the same as a test: frame f is one of the c frames from a on; and frame f is insecure
abbrev pub among : ℕ → ℕ → ℕ → Bool
among a c f = leb a f && ltb f (a + c)

unfoldable pub insecure : Machine → ℕ → Bool
insecure b f = ltb f b.frames && (not (among b.secure b.pages f) && not (among b.monitor b.monitors f))

-- "Lent: the memory (1,024F words) and the ledger"; #109: "ledger 64+32n words"
pub record Lent (b : Machine) (M L : List ℕ) : Type 0 where
  pub fits : Fits b
  pub memory : length M ≡ frame_words * b.frames
  pub ledger : length L ≡ header_words + record_words * b.pages
