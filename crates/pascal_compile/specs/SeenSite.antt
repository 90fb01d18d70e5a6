-- Where statements stand, by the values of the code.
use Rattle.pascal_code.specs.Senses.{Site}
use Rattle.pascal_compile.specs.Seen.{seen_owner, seen_scope}
use Rattle.pascal_compile.specs.declared.site.Site as site_type

abbrev pub seen_site : site_type.Site → Site
seen_site s = record {
  names = seen_scope (s.own).now (s.program).now;
  owner = seen_owner s.owner;
  result = s.answer;
}
