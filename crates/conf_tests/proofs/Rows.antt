-- What words are as values of directives, row by row: each is computed by the check.
use Rattle.std.specs.Prelude.{◌≡◌, [], ◌∷◌, true, false, None, Some, codes, refl}
use Rattle.conf_table.specs.declared.role.Setting.TheVariants as settings
use Rattle.conf_table.specs.declared.role.Switch.TheVariants as switches
use Rattle.conf_table.specs.declared.role.Time.TheVariants as times
use Rattle.conf_values.specs.Numbers.{count_to, unit_of, digits_before, time_of, bytes_of, size_to}
use Rattle.conf_values.specs.Settings.{switch_of, any_of, with_word, with_words, default_settings}

size-1 : size_to 1099511627776 (codes "1024g") ≡ Some 1099511627776
unfolding size_to digits_before bytes_of
size-1 = refl

size-2 : size_to 1099511627776 (codes "1025g") ≡ None
unfolding size_to digits_before bytes_of
size-2 = refl

size-3 : size_to 1099511627776 (codes "08K") ≡ Some 8192
unfolding size_to digits_before bytes_of
size-3 = refl

size-4 : size_to 1099511627776 (codes "k") ≡ None
unfolding size_to digits_before bytes_of
size-4 = refl

count-1 : count_to 8192 (codes "8193") ≡ None
unfolding count_to
count-1 = refl

time-1 : time_of (codes "1500ms") ≡ Some 1500
unfolding time_of digits_before unit_of
time-1 = refl

switch-1 : switch_of (codes "On") ≡ None
unfolding switch_of
switch-1 = refl

setting-1 : with_words (settings.Time times.ClientHeaderTimeout) (codes "5m" ∷ []) default_settings ≡ record default_settings { head_wait = 300000 }
unfolding with_word time_of digits_before unit_of
setting-1 = refl

setting-2 : with_words (settings.Time times.KeepaliveTimeout) (codes "2h" ∷ codes "9" ∷ []) default_settings ≡ record default_settings { idle = 7200000 }
unfolding with_word time_of digits_before unit_of
setting-2 = refl

setting-3 : with_words (settings.Switch switches.MergeSlashes) (codes "off" ∷ []) default_settings ≡ record default_settings { merge = false }
unfolding with_word switch_of
setting-3 = refl

setting-4 : with_words settings.Satisfy (codes "any" ∷ []) default_settings ≡ record default_settings { any = true }
unfolding with_word any_of
setting-4 = refl

setting-5 : with_words settings.SubrequestOutputBufferSize (codes "1K" ∷ []) default_settings ≡ record default_settings { capture_most = 1024 }
unfolding with_word size_to digits_before bytes_of
setting-5 = refl
