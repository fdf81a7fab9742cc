-- What shelves and sinks promise.
use Rattle.std.specs.Prelude.{◌≡◌, ◌⊎◌, ◌<◌, ◌≤◌, ◌+◌, ◌^◌, ℕ, List, [], ◌∷◌, ◌++◌, length, take, Option, Some, None, if◌then◌else◌, bytes_eq}
use Rattle.xw_words.specs.Limits.{longest_text}
use Rattle.xw_io.specs.declared.file.File.{File}
use Rattle.xw_io.specs.declared.shelf.LoadErr.{LoadErr}
use Rattle.xw_io.specs.declared.shelf.LoadErr.TheVariants.{Missing, TooLong, Failed, Memory}
use Rattle.xw_io.specs.declared.sink.Put.{Put}
use Rattle.xw_io.specs.declared.sink.Put.TheVariants.{Took, Failed as PutFailed}

-- a count rose in a call; one that stands at its end serves as well
abbrev pub Rose : ℕ → ℕ → Type 0
Rose before after = (before < after) ⊎ (2 ^ 64 ≤ after + 1)

-- the bytes of the first file of this name
abbrev pub found : List File → List ℕ → Option (List ℕ)
found [] name = None
found (f ∷ fs) name = if bytes_eq f.name name then Some f.bytes else found fs name

-- a fact about what is told, where it is told
abbrev pub WhereTold : {A : Type 0} → Option A → (A → Type 0) → Type 0
WhereTold None P = Unit {0}
WhereTold (Some x) P = P x

-- the most bytes that a file may have
abbrev pub max_file : ℕ
max_file = longest_text

-- the text is what the named file has, and no longer than a file may be
pub record IsFileOf (files : Option (List File)) (name text : List ℕ) : Type 0 where
  pub short : length text ≤ max_file
  pub told : WhereTold files (λ fs. found fs name ≡ Some text)

-- no file has the name
abbrev pub IsMissing : Option (List File) → List ℕ → Type 0
IsMissing files name = WhereTold files (λ fs. found fs name ≡ None)

-- the named file has more bytes than a file may have
abbrev pub IsTooLong : Option (List File) → List ℕ → Type 0
IsTooLong files name = WhereTold files (λ fs. (text : List ℕ) × (found fs name ≡ Some text) × (max_file < length text))

-- why a file is not given: of an answer that is no fault, what it says of the files
abbrev pub IsReason : Option (List File) → List ℕ → LoadErr → Type 0
IsReason files name Missing = IsMissing files name
IsReason files name TooLong = IsTooLong files name
IsReason files name Failed = Unit {0}
IsReason files name Memory = Unit {0}

-- why a file is not given, and which count rose for it
abbrev pub IsRefusal : Option (List File) → List ℕ → ℕ → ℕ → ℕ → ℕ → ℕ → ℕ → LoadErr → Type 0
IsRefusal files name faults faults' misses misses' longs longs' Missing = Rose misses misses' × IsMissing files name
IsRefusal files name faults faults' misses misses' longs longs' TooLong = Rose longs longs' × IsTooLong files name
IsRefusal files name faults faults' misses misses' longs longs' Failed = Rose faults faults'
IsRefusal files name faults faults' misses misses' longs longs' Memory = Unit {0}

-- the bytes with more of them behind, where they are told
abbrev pub gained : Option (List ℕ) → List ℕ → Option (List ℕ)
gained None text = None
gained (Some bytes) text = Some (bytes ++ text)

-- a sink took the front of the piece, not nothing, or it failed and took nothing
abbrev pub IsPut : Option (List ℕ) → Option (List ℕ) → ℕ → ℕ → List ℕ → Put → Type 0
IsPut bytes bytes' faults faults' piece (Took n) = (1 ≤ n) × (n ≤ length piece) × (bytes' ≡ gained bytes (take n piece))
IsPut bytes bytes' faults faults' piece PutFailed = Rose faults faults' × (bytes' ≡ bytes)
