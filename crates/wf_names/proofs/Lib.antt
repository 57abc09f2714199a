mod NameLaws
mod PrintableNames
mod Unescaping
