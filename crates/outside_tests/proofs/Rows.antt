-- What definitions answer of the files of a configuration, row by row. Each is computed by the check.
use Rattle.std.specs.Prelude.{◌≡◌, ℕ, List, [], ◌∷◌, codes, bytes_eq, Ok, Err, refl, if◌then◌else◌}
use Rattle.file_tree.specs.Tree.{AFile}
use Rattle.conf_text.specs.declared.fault.FaultKind.TheVariants.{TooLarge}
use Rattle.conf_include.specs.Paths.{slash_end, is_mask, folder_of}
use Rattle.conf_include.specs.Masks.{matches}
use Rattle.conf_include.specs.Listings.{Names}
use Rattle.conf_include.specs.Expansion.{Faulty, paths_named, text_in, spot, tally, fault_about, most_bytes}

-- the names of the folder `/e/d`, in byte order
abbrev names : Names
names folder = if bytes_eq folder (codes "/e/d") then codes "10.conf" ∷ codes "10.confx" ∷ codes "2.conf" ∷ [] else []

-- a mask's files are read in that order
mask-1 : paths_named names (codes "/e/d/*.conf") ≡ codes "/e/d/10.conf" ∷ codes "/e/d/2.conf" ∷ []
unfolding is_mask slash_end folder_of matches
mask-1 = refl

mask-2 : paths_named names (codes "/e/x/*.conf") ≡ []
unfolding is_mask slash_end folder_of matches
mask-2 = refl

-- a file of two bytes, after as many bytes of others
abbrev two_behind : ℕ → Faulty (List ℕ)
two_behind size = text_in (AFile (codes "a;") 0) (spot 0 1) (codes "/e/a") (tally (codes "/e/c" ∷ []) size)

-- a configuration has 1048576 bytes, and no more
size-1 : two_behind 1048574 ≡ Ok (codes "a;")
unfolding most_bytes
size-1 = refl

size-2 : two_behind 1048575 ≡ Err (fault_about TooLarge (spot 0 1) (codes "/e/a"), codes "/e/c" ∷ [])
unfolding most_bytes
size-2 = refl
